-- `geometry::page_of_row` meets its contract: the mask one below the page count. Assumes nothing.
use Rattle.geometry.proofs.ShiftLaws.{mask_remainder}
use Rattle.geometry.proofs.page_of_row.Goals as goal

pub returns : goal.returns
returns c = mask_remainder c.args.g.pages c.requires.pages_one c.args.row
