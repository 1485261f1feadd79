use Prim.Native.Nat.{◌+◌}
use lib.ListN.{drop}
use mathlib.Core.Path.{◌≡◌, sym, ◌∙◌}
use native.Mathlib.Omega.{arith}
use Rattle.std.proofs.lemmas.Result.{err_from_is_err_and}
use Rattle.codec.proofs.Laws.Header.{read}
use Rattle.codec.proofs.Laws.Reader.{parse_bind}
use Rattle.codec.specs.Header.{within}
use Rattle.codec.specs.Reader.{◌>>=◌, done, choose, parse}
use Rattle.codec.specs.Ahead.{Onward}
use Rattle.codec.proofs.Laws.Ahead.{ready_less, on-from, onward_then}
use Rattle.optional_elements.specs.Elements.{flags_len, read_elements}
use Rattle.mac_resource.specs.Fixed.{fixed_len}
use Rattle.mac_resource.specs.Address.{address_most, is_null}
use Rattle.mac_resource.specs.MacResource.{read_mac_resource, null_of, header_of}
use Rattle.mac_resource.proofs.mac_resource.read_mac_resource.Goals.{In_ok-behind}
use Rattle.mac_resource.proofs.mac_resource.read_mac_resource.Goals as goal

-- what is ahead behind the address
on-address : (c : In_ok-behind) → Onward c.args.a (fixed_len + address_most) c.in_ok-behind.behind
on-address c =
    onward_then (fixed_len + address_most) (on-from c.read_fixed.ensures c.in_ok-behind_fixed.was) (on-from c.read_address.ensures c.in_ok-behind.was) (omega arith)

pub read_address-requires : goal.read_address-requires
read_address-requires c =
    (on-from c.read_fixed.ensures c.in_ok-behind_fixed.was).ready address_most (ready_less (fixed_len + address_most) c.requires.2 (omega arith))

pub read_elements-requires : goal.read_elements-requires
read_elements-requires c =
    let o = on-address (goal.at.read_elements-requires c).In_ok-behind in
    (c.requires.0, o.held _ c.requires.1, o.ready flags_len (ready_less (fixed_len + address_most + flags_len) c.requires.2 (omega arith)))

pub returns-in_err-behind_fixed : goal.returns-in_err-behind_fixed
unfolding read_mac_resource
returns-in_err-behind_fixed c =
    let d = err_from_is_err_and c.from_residual.result c.from_residual.ensures.1 in
    rw (d.1, d.2) (record { means = rw (parse_bind, read (c.read_fixed.ensures.of _ c.requires.1) c.in_err-behind_fixed.was) })

pub returns-in_err-behind : goal.returns-in_err-behind
unfolding read_mac_resource
returns-in_err-behind c =
    let d = err_from_is_err_and c.from_residual-in_err-behind.result c.from_residual-in_err-behind.ensures.1 in
    rw (d.1, d.2) (record {
      means = rw (
        parse_bind,
        read (c.read_fixed.ensures.of _ c.requires.1) c.in_ok-behind_fixed.was,
        parse_bind,
        read (c.read_address.ensures.of _ ((on-from c.read_fixed.ensures c.in_ok-behind_fixed.was).held _ c.requires.1)) c.in_err-behind.was,
      );
    })

-- it is read up to its address
behind : (c : In_ok-behind) → let h = within c.args.s.now c.args.c in let f = c.in_ok-behind_fixed.f in let d = c.in_ok-behind in
    parse read_mac_resource (drop c.args.a.at h) c.args.a.at
    ≡ parse (choose (is_null d.addr) (done (null_of f.length_ind)) (read_elements >>= (λ e. done (header_of f d.addr e)))) (drop d.behind.at h) d.behind.at
unfolding read_mac_resource
behind c =
    rw (
      parse_bind,
      read (c.read_fixed.ensures.of _ c.requires.1) c.in_ok-behind_fixed.was,
      parse_bind,
      read (c.read_address.ensures.of _ ((on-from c.read_fixed.ensures c.in_ok-behind_fixed.was).held _ c.requires.1)) c.in_ok-behind.was,
    )

pub returns-then-is_null : goal.returns-then-is_null
returns-then-is_null c =
    record { means = rw (behind (goal.at.returns-then-is_null c).In_ok-behind, sym c.is_null.ensures ∙ c.if-is_null.true, c.null_of.ensures) }

pub returns-in_err-after : goal.returns-in_err-after
returns-in_err-after c =
    let d = err_from_is_err_and c.from_residual-in_err-after.result c.from_residual-in_err-after.ensures.1 in
    rw (d.1, d.2) (record {
      means = rw (
        behind (goal.at.returns-in_err-after c).In_ok-behind,
        sym c.is_null.ensures ∙ c.if-is_null.false,
        parse_bind,
        read c.read_elements.ensures c.in_err-after.was,
      );
    })

pub returns : goal.returns
returns c = record {
  means = rw (
    behind (goal.at.returns c).In_ok-behind,
    sym c.is_null.ensures ∙ c.if-is_null.false,
    parse_bind,
    read c.read_elements.ensures c.in_ok-after.was,
    c.header_of.ensures,
  );
}
