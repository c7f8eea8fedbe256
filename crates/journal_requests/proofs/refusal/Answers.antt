-- `journal_requests::refusal` meets its contract. Assumes nothing.
use mathlib.Core.Path.{sym, ◌∙◌}
use native.Mathlib.Omega.{arith}
use Rattle.request.proofs.CallLaws.{sizes}
use Rattle.journal_requests.proofs.EndLaws.{refused_geometry, refused_unmounted, not_refused}
use Rattle.journal_requests.proofs.refusal.Goals as goal

pub returns-then-not-is_sized : goal.returns-then-not-is_sized
returns-then-not-is_sized c = refused_geometry c.args.g _ c.args.state (sym c.is_sized.ensures ∙ c.if-not-is_sized.true)

pub is_mounted-requires : goal.is_mounted-requires
is_mounted-requires c = let v = (sizes _ _ _ _ _ (sym c.is_sized.ensures ∙ c.if-not-is_sized.false)).chip_fits.is_valid in
    (omega (arith, v.blocks_most), omega (arith, v.blocks_most, v.logical_most))

pub returns-then-not-is_mounted : goal.returns-then-not-is_mounted
returns-then-not-is_mounted c =
    refused_unmounted c.args.g _ c.args.state (sym c.is_sized.ensures ∙ c.if-not-is_sized.false) (sym c.is_mounted.ensures ∙ c.if-not-is_mounted.true)

pub returns : goal.returns
returns c =
    not_refused c.args.g _ c.args.state (sym c.is_sized.ensures ∙ c.if-not-is_sized.false) (sym c.is_mounted.ensures ∙ c.if-not-is_mounted.false)
