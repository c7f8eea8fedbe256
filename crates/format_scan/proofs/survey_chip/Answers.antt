-- `format_scan::survey_chip` meets its contract. Assumes nothing.
use Prim.Native.Nat.{◌<◌}
use mathlib.Core.Path.{sym, ap, subst, ◌∙◌}
use native.Mathlib.Omega.{arith}
use Rattle.geometry.proofs.SizeLaws.{page_size_most}
use Rattle.bools.proofs.BoolLaws.{clash}
use Rattle.bus_polling.proofs.OutcomeLaws.{passed_by_is, other_by_not}
use Rattle.scan_summary.specs.declared.Depth.TheVariants.{Full}
use Rattle.scan_found.specs.declared.Found.{Found}
use Rattle.scan_found.proofs.FoundLaws.{table_small}
use Rattle.request.proofs.CallLaws.{lent-page}
use Rattle.format_scan.specs.Survey.{survey_of}
use Rattle.format_scan.proofs.SurveyLaws.{survey_found}
use Rattle.format_scan.proofs.survey_chip.Goals as goal

pub find-scanned-requires : goal.find-scanned-requires
find-scanned-requires c = record { called = c.requires; page_len = lent-page _ _ (omega (arith, c.page_size-size.ensures, page_size_most c.args.g c.requires.is_valid)) c.page_size-size.ensures }

pub returns-in_default : goal.returns-in_default
returns-in_default c =
    record {
      line_is = c.find-scanned.ensures.line_is;
      outcome_is = c.find-scanned.ensures.outcome_is;
      same_array = c.find-scanned.ensures.same_array;
      same_history = c.find-scanned.ensures.same_history;
      next = c.find-scanned.ensures.next;
      survey_is = λ t. clash t (other_by_not _ c.in_default.not-Passed);
    }

pub take_over-survey-requires : goal.take_over-survey-requires
take_over-survey-requires c =
    let p = passed_by_is _ c.in-Passed.is in record { valid = c.requires.is_valid; table_bound = subst (λ (x : Found). x.table < 4096) (sym (c.find-scanned.ensures.found_is p)) (table_small Full c.args.g c.args.array.now c.args.g.blocks c.requires.is_valid.blocks_most) }

pub returns : goal.returns
returns c =
    let p = passed_by_is _ c.in-Passed.is in
    record {
      line_is = c.find-scanned.ensures.line_is;
      outcome_is = c.find-scanned.ensures.outcome_is;
      same_array = c.find-scanned.ensures.same_array;
      same_history = c.find-scanned.ensures.same_history;
      next = c.find-scanned.ensures.next;
      survey_is = λ t. c.take_over-survey.ensures ∙ ap (survey_of c.args.g) (c.find-scanned.ensures.found_is p) ∙ survey_found c.args.g c.requires.is_valid c.args.array.now c.requires.array_long;
    }
