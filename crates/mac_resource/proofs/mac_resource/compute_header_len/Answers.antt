use mathlib.Core.Path.{sym, ap, ◌∙◌}
use Rattle.std.proofs.lemmas.Result.{err_from_is_err_and}
use Rattle.tetra_core.specs.Refusal.{refused_by}
use Rattle.mac_resource.specs.MacResource.{compute_header_len}
use Rattle.mac_resource.proofs.Counts.{len-refused}
use Rattle.mac_resource.proofs.mac_resource.compute_header_len.Goals as goal

pub returns-in_err-length_refusal : goal.returns-in_err-length_refusal
unfolding compute_header_len
returns-in_err-length_refusal c =
    let p = err_from_is_err_and c.from_residual.result c.from_residual.ensures.1 in
    rw (p.1, p.2) (len-refused _ _ _ (sym (ap refused_by c.in_err-length_refusal.was) ∙ c.length_refusal.ensures))

pub returns : goal.returns
unfolding compute_header_len
returns c =
    rw (c.header_len.ensures.0, sym c.length_refusal.ensures ∙ ap refused_by c.in_ok-length_refusal.was)
