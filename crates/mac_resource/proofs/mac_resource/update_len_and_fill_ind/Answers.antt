use mathlib.Core.Path.{◌≡◌, sym, ap, ◌∙◌}
use native.Mathlib.Omega.{arith}
use Prim.Native.Nat.{◌+◌}
use Rattle.std.proofs.lemmas.Result.{err_from_is_err_and}
use Rattle.tetra_core.specs.Refusal.{refused_by}
use Rattle.mac_resource.specs.MacResource.{header_len, length_refusal, update_len_and_fill_ind}
use Rattle.mac_resource.proofs.Counts.{len_and_fill-refused, octets_over}
use Rattle.mac_resource.proofs.mac_resource.update_len_and_fill_ind.Goals.{In_ok-length_refusal}
use Rattle.mac_resource.proofs.mac_resource.update_len_and_fill_ind.Goals as goal

counted : (c : In_ok-length_refusal) → length_refusal c.args.h ≡ 0
counted c = sym c.length_refusal.ensures ∙ ap refused_by c.in_ok-length_refusal.was

pub returns-in_err-length_refusal : goal.returns-in_err-length_refusal
unfolding update_len_and_fill_ind
returns-in_err-length_refusal c =
    let p = err_from_is_err_and c.from_residual.result c.from_residual.ensures.1 in
    rw (p.1, p.2) (len_and_fill-refused _ _ _ (sym (ap refused_by c.in_err-length_refusal.was) ∙ c.length_refusal.ensures))

pub returns-then-sdu_len : goal.returns-then-sdu_len
unfolding update_len_and_fill_ind
returns-then-sdu_len c =
    let d = c.args in
    rw (counted (goal.at.returns-then-sdu_len c).In_ok-length_refusal, octets_over (header_len d.h + d.sdu_len) (omega arith))

pub returns : goal.returns
unfolding update_len_and_fill_ind
returns c =
    rw (counted (goal.at.returns c).In_ok-length_refusal, ← c.header_len.ensures.0, sym c.count_octets.ensures ∙ c.in_ok-counted.was)

pub returns-in_err-counted : goal.returns-in_err-counted
unfolding update_len_and_fill_ind
returns-in_err-counted c =
    let p = err_from_is_err_and c.from_residual-in_err-counted.result c.from_residual-in_err-counted.ensures.1 in
    rw (p.1, p.2, counted (goal.at.returns-in_err-counted c).In_ok-length_refusal, ← c.header_len.ensures.0, sym c.count_octets.ensures ∙ c.in_err-counted.was)
