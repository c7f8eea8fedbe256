-- `journal_requests::survey` meets its contract. Assumes nothing.
use Prim.Native.Nat.{ℕ}
use mathlib.Core.Path.{◌≡◌, sym, ap, subst}
use native.Mathlib.Omega.{arith}
use lib.ListN.{length, length-replicate}
use Rattle.chip_array.specs.Device.{device, setting}
use Rattle.bus.specs.Line.{line}
use Rattle.bus.specs.declared.Bus.{Bus}
use Rattle.operations.specs.Ends.{Lent}
use Rattle.request.proofs.CallLaws.{sizes}
use Rattle.write.proofs.EndLaws.{call_lent}
use Rattle.journal_requests.proofs.EndLaws.{mapped, lent_main, counted-from}
use borrow.Author.Rules.{rules}
use Rattle.journal_requests.proofs.survey.Goals as goal

pub slice_bounds-find_end-end : goal.slice_bounds-find_end-end
slice_bounds-find_end-end c =
    let map_long : length c.args.state.map ≡ 4096 = search rules in
    sym (map_long)

pub slice_bounds-find_end-end-2 : goal.slice_bounds-find_end-end-2
slice_bounds-find_end-end-2 c =
    let kinds_long : length c.args.state.kinds ≡ 4096 = search rules in
    sym (kinds_long)

pub slice_bounds-page-end : goal.slice_bounds-page-end
slice_bounds-page-end c =
    let v = (sizes _ _ _ _ _ c.requires.mask_value).chip_fits.is_valid in
    omega (arith, v.main_most, length-replicate {A = ℕ} 4096 0)

pub find_end-requires : goal.find_end-requires
find_end-requires c =
    let map_long : length c.args.state.map ≡ 4096 = search rules in
    let kinds_long : length c.args.state.kinds ≡ 4096 = search rules in
    let set = (setting c.args.g c.args.mask.now c.args.fates.now) in
    let d = (device c.args.interface c.args.array.now c.args.register.now c.args.history.now) in
    let v = (sizes _ _ _ _ _ c.requires.mask_value).chip_fits.is_valid in record { lent = subst (λ (x : Bus). Lent set (line x c.args.array.now c.args.register.now c.args.history.now)) (sym c.begin-from.ensures) (call_lent set d c.args.allowed c.requires.mask_value); mapped = mapped c.args.g c.args.state v (map_long) (kinds_long) c.requires.logical_value; page_len = lent_main c.args.g.main v.main_most; replaced_value = c.requires.replaced_value }

pub returns : goal.returns
returns c =
    counted-from (ap (λ (x : Bus). line x c.args.array.now c.args.register.now c.args.history.now) c.begin-from.ensures) c.find_end.ensures
