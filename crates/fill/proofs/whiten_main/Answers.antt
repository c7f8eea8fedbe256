-- `fill::whiten_main` meets its contract. Assumes nothing.
use native.Mathlib.Omega.{arith}
use Rattle.fill.proofs.MainLaws.{put_white}
use Rattle.fill.proofs.whiten_main.Goals as goal

pub returns : goal.returns
returns c =
    put_white c.args.g.main c.args.page.now (omega (arith, c.requires.page_len)) _ _ c.whiten.auto.bytes c.args.place c.whiten.ensures
