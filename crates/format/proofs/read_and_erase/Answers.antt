-- `format::read_and_erase` meets its contract. Assumes nothing.
use mathlib.Core.Path.{◌∙◌}
use native.Mathlib.Omega.{arith}
use Rattle.chip_array.specs.Device.{setting}
use Rattle.bus.specs.Line.{line}
use Rattle.bus_polling.proofs.OutcomeLaws.{passed_by_is, other_by_not}
use Rattle.format.proofs.WholeLaws.{reads-left, reads_stop, reads_goes}
use Rattle.format.proofs.read_and_erase.Goals as goal

pub end-requires : goal.end-requires
end-requires c =
    omega (arith, c.requires.left_le_allowed, reads-left (setting c.args.g c.args.mask.now c.args.fates.now) (line c.args.from c.args.array.now c.args.register.now c.args.history.now) _ _ _ c.survey_chip-found.ensures)

pub shape_of-array-in_default : goal.shape_of-array-in_default
shape_of-array-in_default c =
    c.array-1.given

pub shape_of-register-in_default : goal.shape_of-register-in_default
shape_of-register-in_default c = c.register-1.given

pub shape_of-history-in_default : goal.shape_of-history-in_default
shape_of-history-in_default c = c.history-1.given

pub returns-in_default : goal.returns-in_default
returns-in_default c =
    λ cs os. c.end.ensures _ _ _ ∙ reads_stop (setting c.args.g c.args.mask.now c.args.fates.now) c.args.allowed (line c.args.from c.args.array.now c.args.register.now c.args.history.now) _ c.survey_chip-found.result.outcome _ c.survey_chip-found.ensures c.args.state (other_by_not _ c.in_default.not-Passed) _ _ c.stop_answer.ensures c.blank.ensures cs os

pub erase_if_writable-requires : goal.erase_if_writable-requires
erase_if_writable-requires c = record { called = c.survey_chip-found.ensures.next (passed_by_is _ c.in-Passed.is); left_le_allowed = omega (arith, c.requires.left_le_allowed, reads-left (setting c.args.g c.args.mask.now c.args.fates.now) (line c.args.from c.args.array.now c.args.register.now c.args.history.now) _ _ _ c.survey_chip-found.ensures) }

pub shape_of-array : goal.shape_of-array
shape_of-array c = c.array-2-1.given ∙ c.array-1.given

pub shape_of-register : goal.shape_of-register
shape_of-register c = c.register-2-1.given ∙ c.register-1.given

pub shape_of-history : goal.shape_of-history
shape_of-history c = c.history-2-1.given ∙ c.history-1.given

pub returns : goal.returns
returns c =
    λ cs os. reads_goes (setting c.args.g c.args.mask.now c.args.fates.now) c.args.allowed (line c.args.from c.args.array.now c.args.register.now c.args.history.now) _ c.survey_chip-found.result.outcome _ c.survey_chip-found.ensures (passed_by_is _ c.in-Passed.is) c.args.state _ c.erase_if_writable.ensures cs os
