-- A step of a walk meets its contract. Assumes nothing.
use Rattle.std.proofs.Common.{rules}
use Rattle.set_tags.proofs.edited_tags.Walks.{none_left, source_alone, many_alone, both_set, both_stay, many_lower, source_lower}
use Rattle.set_tags.proofs.edited_tags.Edited.step.Goals as goal

pub returns-in_err-other : goal.returns-in_err-other
returns-in_err-other c = none_left c.args.self.now c.in_default.ensures.steps.0 c.in_err-other.ensures.steps.0 _ (search rules)

pub returns-in_default : goal.returns-in_default
returns-in_default c =
    source_alone c.args.self.now c.next-in_default.new.self c.in_ok-other.other c.in_ok-other.ensures.steps c.in_default.ensures.steps.0 _ c.is_set.ensures _ c.then_some.ensures

pub returns-in_default-next : goal.returns-in_default-next
returns-in_default-next c =
    many_alone c.args.self.now c.next.new.self c.in-Some.tag c.in-Some.ensures.steps c.in_default-next.ensures.steps.0 _ c.remains.ensures
    _ c.then_some-in_default-next.ensures

pub returns-then-is_set : goal.returns-then-is_set
returns-then-is_set c =
    both_set c.args.self.now c.next.new.self c.in-Some.tag c.in-Some.ensures.steps
    c.next-2.new.self c.in-Some-next.other c.in-Some-next.ensures.steps _ c.same_bytes.ensures c.if-same_bytes.true
    _ c.is_set-then-same_bytes.ensures c.if-is_set.true

pub returns-then-same_bytes : goal.returns-then-same_bytes
returns-then-same_bytes c =
    both_stay c.args.self.now c.next.new.self c.in-Some.tag c.in-Some.ensures.steps
    c.next-2.new.self c.in-Some-next.other c.in-Some-next.ensures.steps _ c.same_bytes.ensures c.if-same_bytes.true
    _ c.is_set-then-same_bytes.ensures c.if-is_set.false

pub returns-then-is_below : goal.returns-then-is_below
returns-then-is_below c =
    many_lower c.args.self.now c.next.new.self c.in-Some.tag c.in-Some.ensures.steps
    c.next-2.new.self c.in-Some-next.other c.in-Some-next.ensures.steps _ c.same_bytes.ensures c.if-same_bytes.false
    _ c.is_below.ensures c.if-is_below.true _ c.remains-then-is_below.ensures _ c.then_some-then-is_below.ensures

pub returns : goal.returns
returns c =
    source_lower c.args.self.now c.next.new.self c.in-Some.tag c.in-Some.ensures.steps
    c.next-2.new.self c.in-Some-next.other c.in-Some-next.ensures.steps _ c.same_bytes.ensures c.if-same_bytes.false
    _ c.is_below.ensures c.if-is_below.false _ c.is_set-2.ensures _ c.then_some-2.ensures
