-- The tests are those of the definition, in their order; then the descriptor and the map's entry are written.
use native.Mathlib.Omega.{arith}
use mathlib.Core.Path.{refl, ◌∙◌}
use Rattle.stepped.proofs.Doing.{done}
use Rattle.steps_allocate.proofs.AllocateWays.{refuses}
use Rattle.steps_fill.proofs.FillingWays.{a7-none, a7-region, a7-opens}
use Rattle.steps_fill.proofs.region.open.Goals as goal

pub returns-in_err-descriptor : goal.returns-in_err-descriptor
returns-in_err-descriptor c link =
    refuses _ (a7-none _ _ _ _ _ c.get.ensures c.in_err-descriptor.ensures.outside) c.from_residual.ensures.1

pub returns-in_err-region : goal.returns-in_err-region
returns-in_err-region c link =
    let d = c.in_ok-descriptor.ensures in
    refuses _ (a7-region _ _ _ _ _ (d.found ∙ c.get.ensures) (omega (arith, d)) c.get-2.ensures
    c.in_err-region.ensures.outside) c.from_residual-in_err-region.ensures.1

pub returns : goal.returns
returns c link =
    let d = c.in_ok-descriptor.ensures in
    let r = c.in_ok-region.ensures in
    let s2 = rw c.set.ensures at c.set-2.ensures in
    let s3 = rw s2 at c.set-3.ensures in
    let s4 = rw (s3, c.get-3.ensures.same) at c.set-4.ensures in
    let s5 = rw (s4, c.get-4.ensures.same) at c.set-5.ensures in
    let s6 = rw (s5, c.get-5.ensures.same) at c.set-6.ensures in
    done (a7-opens _ _ _ _ _ (d.found ∙ c.get.ensures) (omega (arith, d)) (r.found ∙ c.get-2.ensures) (omega (arith, r))
    c.full_word.ensures) refl s6 refl
