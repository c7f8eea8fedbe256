use Rattle.std.proofs.Common.{◌∙◌, arith}
use Rattle.line_input.proofs.FieldLaws.{digits_next, digits_stop, digits_end, number_is, number_short}
use Rattle.line_input.proofs.number_at.Goals as goal

pub returns-in_err-byte-items : goal.returns-in_err-byte-items
returns-in_err-byte-items c =
    c.from_residual.ensures
    ∙ number_short c.args.line.now c.args.at c.args.base (omega (arith, c.in_err-byte-items.ensures.lookup))

pub returns-in_default : goal.returns-in_default
returns-in_default c =
    let s = c.args in
    let l = c.loop-byte in
    let rest = c.in_ok-byte-items.byte-items.now in
    c.some_digit.ensures
    ∙ number_is s.line.now rest _ s.at s.base l.number.value l.number.end c.in_ok-byte-items.ensures.lookup.0.2 l.invariant.digits_left (digits_stop rest s.base l.number.value l.number.end l.byte-index (omega arith) c.in_default.ensures)

pub loop-byte-preserved : goal.loop-byte-preserved
loop-byte-preserved c =
    let l = c.loop-byte in
    record {
      value_bound = c.append.ensures.upper_bound;
      end_value = omega (arith, l.invariant.end_value);
      digits_left = digits_next c.in_ok-byte-items.byte-items.now c.args.base l.number.value l.number.end l.byte-index c.in-Some.digit c.append.result (omega arith) c.in-Some.ensures c.append.ensures.value ∙ l.invariant.digits_left;
    }

pub returns : goal.returns
returns c =
    let s = c.args in
    let l = c.loop-byte in
    let rest = c.in_ok-byte-items.byte-items.now in
    c.some_digit-2.ensures
    ∙ number_is s.line.now rest _ s.at s.base l.number.value l.number.end c.in_ok-byte-items.ensures.lookup.0.2 l.invariant.digits_left (digits_end rest s.base l.number.value l.number.end l.byte-index (omega (arith, c.loop-byte-test.false)))
