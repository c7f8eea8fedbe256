-- `open_requests::go_on` meets its contract. Assumes nothing.
use Prim.Native.Nat.{ℕ}
use mathlib.Core.Path.{refl, sym, ap, subst}
use native.Mathlib.Nat.{sub-zero}
use native.Mathlib.Omega.{arith}
use lib.ListN.{take}
use Rattle.geometry.proofs.SizeLaws.{page_size_most}
use Rattle.fill.proofs.MainLaws.{lent-long}
use Rattle.request.proofs.CallLaws.{lent-page}
use Rattle.fill_cursor.specs.Cursor.{Fits}
use Rattle.open_requests.proofs.EndLaws.{ran_as}
use Rattle.open_requests.proofs.go_on.Goals as goal

pub run-requires : goal.run-requires
run-requires c =
    let long = lent-long c.args.g.main c.args.kept.now c.requires.main_in_bounds in record { lent = c.requires.lent; fits = λ h. subst (λ (n : ℕ). Fits c.args.g n c.args.start.cursor) (sym long) c.requires.fits; last_lt_blocks = λ h. c.requires.last_lt_blocks; page_len = lent-page _ _ (omega (arith, c.page_size-size.ensures, page_size_most c.args.g c.requires.lent.is_valid)) c.page_size-size.ensures }

pub returns : goal.returns
returns c =
    ran_as (ap (λ (k : ℕ). take k c.args.kept.now) (sub-zero c.args.g.main)) refl refl c.run.ensures
