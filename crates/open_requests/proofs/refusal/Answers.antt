-- `open_requests::refusal` meets its contract. Assumes nothing.
use mathlib.Core.Path.{sym, ◌∙◌}
use native.Mathlib.Omega.{arith}
use Rattle.request.proofs.CallLaws.{sizes}
use Rattle.open_write.specs.Open.{open_state}
use Rattle.open_requests.proofs.EndLaws.{refused_geometry, refused_unmounted, refused_outside, refused_barred, unrefused}
use Rattle.open_requests.proofs.refusal.Goals as goal

pub returns-then-not-is_sized : goal.returns-then-not-is_sized
returns-then-not-is_sized c =
    refused_geometry c.args.g _ (open_state c.args.state c.args.write c.args.kept.now) c.args.barred (sym c.is_sized.ensures ∙ c.if-not-is_sized.true)

pub is_mounted-requires : goal.is_mounted-requires
is_mounted-requires c = let v = (sizes _ _ _ _ _ (sym c.is_sized.ensures ∙ c.if-not-is_sized.false)).chip_fits.is_valid in (omega (arith, v.blocks_most), omega (arith, v.blocks_most, v.logical_most))

pub returns-then-not-is_mounted : goal.returns-then-not-is_mounted
returns-then-not-is_mounted c =
    let sized = sym c.is_sized.ensures ∙ c.if-not-is_sized.false in
    refused_unmounted c.args.g _ (open_state c.args.state c.args.write c.args.kept.now) c.args.barred sized (sym c.is_mounted.ensures ∙ c.if-not-is_mounted.true)

pub returns-then-not-fits : goal.returns-then-not-fits
returns-then-not-fits c =
    let sized = sym c.is_sized.ensures ∙ c.if-not-is_sized.false in
    let up = sym c.is_mounted.ensures ∙ c.if-not-is_mounted.false in
    refused_outside c.args.g _ (open_state c.args.state c.args.write c.args.kept.now) c.args.barred sized up (sym (c.fits.ensures c.args.state) ∙ c.if-not-fits.true)

pub returns-then-barred : goal.returns-then-barred
returns-then-barred c =
    let sized = sym c.is_sized.ensures ∙ c.if-not-is_sized.false in
    let up = sym c.is_mounted.ensures ∙ c.if-not-is_mounted.false in
    let inside = sym (c.fits.ensures c.args.state) ∙ c.if-not-fits.false in
    refused_barred c.args.g _ (open_state c.args.state c.args.write c.args.kept.now) c.args.barred sized up inside c.if-barred.true

pub returns : goal.returns
returns c =
    let sized = sym c.is_sized.ensures ∙ c.if-not-is_sized.false in
    let up = sym c.is_mounted.ensures ∙ c.if-not-is_mounted.false in
    let inside = sym (c.fits.ensures c.args.state) ∙ c.if-not-fits.false in
    unrefused c.args.g _ (open_state c.args.state c.args.write c.args.kept.now) c.args.barred sized up inside c.if-barred.false
