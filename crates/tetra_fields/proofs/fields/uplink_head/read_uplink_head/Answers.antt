use Rattle.std.proofs.Common.{ℕ, ◌+◌, ◌/◌, ◌%◌, ◌^◌, ◌≡◌, sym, ap, ◌∙◌, List, ◌++◌, Bool, drop, arith, lit≤, add_assoc, eq-eqb, ne_eqb, Result}
use Rattle.std.proofs.Math.Pow.{shr_mod}
use Rattle.std.proofs.lemmas.Result.{err_from_is_err_and}
use Rattle.bits.specs.Bits.{bits_of_nat}
use Rattle.tetra_core.specs.declared.address.UplinkAddress.{UplinkAddress}
use Rattle.tetra_core.specs.declared.refusal.Refusal.{Refusal}
use Rattle.codec.specs.declared.Ahead.{Ahead}
use Rattle.codec.specs.Reader.{got, field_at, done, parse, next}
use Rattle.codec.proofs.Laws.Reader.{parse_bind}
use Rattle.codec.proofs.Laws.Words.{field-word, parse-word}
use Rattle.codec.specs.Cases.{flag}
use Rattle.codec.specs.Header.{Word}
use Rattle.codec.specs.Ahead.{Held, part_out}
use Rattle.codec.proofs.Laws.Ahead.{held_on, onward, onward_then, next-read, on-from}
use Rattle.tetra_fields.specs.UplinkAddress.{uplink_type_number}
use Rattle.tetra_fields.specs.Laws.UplinkAddress.{uplink_type-again}
use Rattle.tetra_fields.specs.UplinkHead.{read_uplink_head, read_uplink_body}
use Rattle.tetra_fields.specs.declared.fields.uplink_head.UplinkHead.{UplinkHead}
use Rattle.tetra_fields.proofs.fields.uplink_head.read_uplink_head.Goals.{After-read_uplink_address}
use Rattle.tetra_fields.proofs.fields.uplink_head.read_uplink_head.Goals as goal

-- the first field of a word, whose width is not known
first_of : {h : List Bool} {o x : ℕ} (w m : ℕ) → Word h o (w + m) x → field_at w (drop o h) o ≡ got (x / 2 ^ m) (bits_of_nat m x ++ drop (o + w + m) h) (o + w)
first_of {h} {o} {x} w m e = rw (e.bits, field-word w m x (drop (o + (w + m)) h) o, shr_mod w m e.small, add_assoc)

pub returns-then-x-ne0 : goal.returns-then-x-ne0
unfolding read_uplink_head
returns-then-x-ne0 c = record {
  of = λ h e. record {
    means = rw (c.wrong_type.ensures, first_of c.args.w 4 (c.next_bits-x.ensures.word h e c.if-a-n.false), ne_eqb _ _ c.if-x-ne0.true);
  };
  onward = tt;
}

-- the head of a number x before its address
abbrev head : ℕ → UplinkAddress → UplinkHead
head x addr = record { fill_bits = flag (x / 8 % 2); encrypted = flag (x / 4 % 2); addr = addr }

-- it is read up to its address, which the answer r is of
to_address : (c : After-read_uplink_address) {r : Result (Ahead × UplinkAddress) Refusal} (h : List Bool) → Held h c.args.a → c.read_uplink_address.result ≡ r
    → parse (read_uplink_head c.args.w) (drop c.args.a.at h) c.args.a.at ≡ next (part_out r h) (λ addr. parse (done (head c.next_bits-x.result addr)))
unfolding read_uplink_head read_uplink_body
to_address c h e was =
    let a = c.args in
    let at : c.advance.result.at ≡ a.a.at + a.w + 4 = rw c.advance.ensures (omega arith) in
    let kind : c.next_bits-x.result % 4 ≡ uplink_type_number c.from_raw-t.result = sym (ap uplink_type_number c.from_raw-t.ensures ∙ uplink_type-again _) in
    rw (
      first_of a.w 4 (c.next_bits-x.ensures.word h e c.if-a-n.false),
      eq-eqb _ _ c.if-x-ne0.false,
      parse-word read_uplink_body _ 4 0 _ (a.a.at + a.w),
      parse_bind,
      kind,
      next-read {h = h} c.read_uplink_address.ensures (rw c.advance.ensures (held_on _ e c.if-a-n.false)) at was,
    )

pub returns-in_err-after : goal.returns-in_err-after
returns-in_err-after c =
    let p = err_from_is_err_and c.from_residual.result c.from_residual.ensures.1 in
    rw (p.1, p.2) (record { of = λ h e. record { means = rw (to_address (goal.at.returns-in_err-after c).After-read_uplink_address h e c.in_err-after.was) }; onward = tt })

pub returns : goal.returns
returns c = record {
  of = λ h e. record { means = rw (to_address (goal.at.returns c).After-read_uplink_address h e c.in_ok-after.was) };
  onward =
      onward_then {m = 6} 30 (rw c.advance.ensures (onward (c.args.w + 4) 6 (omega arith) c.if-a-n.false))
      (on-from c.read_uplink_address.ensures c.in_ok-after.was) (lit≤ tt);
}
