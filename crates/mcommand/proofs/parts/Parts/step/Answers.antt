-- SPDX-License-Identifier: Apache-2.0
use Rattle.mcommand.proofs.CommandLaws.{refl, does_yielded}
use Rattle.mcommand.proofs.Within.{within_any, within_named}
use Rattle.mcommand.proofs.parts.Parts.step.Goals as goal

pub returns-in-Operand : goal.returns-in-Operand
returns-in-Operand g c = rw c.in-Operand.is (within_any c.operand_step.ensures)

pub returns-in-Primary : goal.returns-in-Primary
returns-in-Primary g c = rw c.in-Primary.is (within_any c.primary_step.ensures)

pub returns-in-Tail : goal.returns-in-Tail
returns-in-Tail g c = rw c.in-Tail.is (within_any c.tail_step.ensures)

pub returns-in-Spend : goal.returns-in-Spend
returns-in-Spend g c = rw c.in-Spend.is (within_any c.spend_step.ensures)

pub returns-in-Raise : goal.returns-in-Raise
returns-in-Raise g c = rw c.in-Raise.is (within_any c.raise_step.ensures)

pub returns-in-Begin : goal.returns-in-Begin
returns-in-Begin g c = rw c.in-Begin.is (within_any c.begin_step.ensures)

pub returns-in-Actual : goal.returns-in-Actual
returns-in-Actual g c = rw c.in-Actual.is (within_any c.actual_step.ensures)

pub returns-in-HandName : goal.returns-in-HandName
returns-in-HandName g c = rw c.in-HandName.is (within_any c.hand_name_step.ensures)

pub returns-in-Formats : goal.returns-in-Formats
returns-in-Formats g c = rw c.in-Formats.is (within_any c.formats_step.ensures)

pub returns-in-Prepare : goal.returns-in-Prepare
returns-in-Prepare g c = rw c.in-Prepare.is (within_any c.prepare_step.ensures)

pub returns-in-Sign : goal.returns-in-Sign
returns-in-Sign g c = rw c.in-Sign.is (within_any (does_yielded c.sign_step.ensures))

pub returns-in-Join : goal.returns-in-Join
returns-in-Join g c = rw c.in-Join.is (within_any (does_yielded c.join_step.ensures))

pub returns-in-Add : goal.returns-in-Add
returns-in-Add g c = rw c.in-Add.is (within_any (does_yielded c.add_step.ensures))

pub returns-in-Function : goal.returns-in-Function
returns-in-Function g c = rw c.in-Function.is (within_any (does_yielded c.function_step.ensures))

pub returns-in-Hand : goal.returns-in-Hand
returns-in-Hand g c = rw c.in-Hand.is (within_any (does_yielded c.hand_step.ensures))

pub returns-in-Where : goal.returns-in-Where
returns-in-Where g c = rw c.in-Where.is (within_any (does_yielded c.where_step.ensures))

pub returns-in-Values : goal.returns-in-Values
returns-in-Values g c =
    let put = rw c.new.ensures.items at c.put.ensures in
    rw c.in-Values.is (within_any (does_yielded put))

pub returns-in-Call : goal.returns-in-Call
returns-in-Call g c = rw c.in-Call.is (within_any (does_yielded (record { ends = λ s. refl })))

pub returns-in-Match : goal.returns-in-Match
returns-in-Match g c = rw c.in-Match.is (within_any c.match_step.ensures)

pub returns-in-MatchNot : goal.returns-in-MatchNot
returns-in-MatchNot g c = rw c.in-MatchNot.is (within_any c.match_not_step.ensures)

pub returns-in-Global : goal.returns-in-Global
returns-in-Global g c = rw c.in-Global.is (within_any c.global_step.ensures)

pub returns-in-Named : goal.returns-in-Named
returns-in-Named g c = rw c.in-Named.is (within_named _ _ c.named_step.ensures)

pub returns-in-Read : goal.returns-in-Read
returns-in-Read g c = rw c.in-Read.is (within_any c.read_step.ensures)

pub returns-in-Data : goal.returns-in-Data
returns-in-Data g c = rw c.in-Data.is (within_any c.data_step.ensures)

pub returns-in-Resolve : goal.returns-in-Resolve
returns-in-Resolve g c = rw c.in-Resolve.is (within_any c.resolve_step.ensures)

pub returns-in-Get : goal.returns-in-Get
returns-in-Get g c = rw c.in-Get.is (within_any c.get_step.ensures)

pub returns-in-Walk : goal.returns-in-Walk
returns-in-Walk g c = rw c.in-Walk.is (within_any c.walk_step.ensures)

pub returns-in-Order : goal.returns-in-Order
returns-in-Order g c = rw c.in-Order.is (within_any c.order_step.ensures)

pub returns-in-TellName : goal.returns-in-TellName
returns-in-TellName g c = rw c.in-TellName.is (within_any c.tell_name_step.ensures)

pub returns-in-Increment : goal.returns-in-Increment
returns-in-Increment g c = rw c.in-Increment.is (within_any c.increment_step.ensures)

pub returns-in-Seek : goal.returns-in-Seek
returns-in-Seek g c = rw c.in-Seek.is (within_any c.seek_step.ensures)

pub returns-in-Query : goal.returns-in-Query
returns-in-Query g c = rw c.in-Query.is (within_any c.query_step.ensures)

pub returns-in-Local : goal.returns-in-Local
returns-in-Local g c = rw c.in-Local.is (within_any (does_yielded c.local_step.ensures))

pub returns-in-Naked : goal.returns-in-Naked
returns-in-Naked g c = rw c.in-Naked.is (within_any (does_yielded c.naked_step.ensures))

pub returns-in-Extended : goal.returns-in-Extended
returns-in-Extended g c = rw c.in-Extended.is (within_any (does_yielded c.extended_step.ensures))

pub returns-in-Unless : goal.returns-in-Unless
returns-in-Unless g c = rw c.in-Unless.is (within_any (does_yielded (record { ends = λ s. refl })))

pub returns-in-Pass : goal.returns-in-Pass
returns-in-Pass g c = rw c.in-Pass.is (within_any (does_yielded (record { ends = λ s. refl })))

pub returns-in-NoChoice : goal.returns-in-NoChoice
returns-in-NoChoice g c = rw c.in-NoChoice.is (within_any (does_yielded (record { ends = λ s. refl })))

pub returns-in-Targets : goal.returns-in-Targets
returns-in-Targets g c =
    let put = rw c.new-in-Targets.ensures.items at c.put-in-Targets.ensures in
    rw c.in-Targets.is (within_any (does_yielded put))

pub returns-in-Target : goal.returns-in-Target
returns-in-Target g c = rw c.in-Target.is (within_any (does_yielded c.target_step.ensures))

pub returns-in-Part : goal.returns-in-Part
returns-in-Part g c = rw c.in-Part.is (within_any (does_yielded c.part_step.ensures))

pub returns-in-Names : goal.returns-in-Names
returns-in-Names g c =
    let put = rw c.new-in-Names.ensures.items at c.put-in-Names.ensures in
    rw c.in-Names.is (within_any (does_yielded put))

pub returns-in-Name : goal.returns-in-Name
returns-in-Name g c = rw c.in-Name.is (within_any c.name_step.ensures)

pub returns-in-Numbers : goal.returns-in-Numbers
returns-in-Numbers g c =
    let put = rw c.new-in-Numbers.ensures.items at c.put-in-Numbers.ensures in
    rw c.in-Numbers.is (within_any (does_yielded put))

pub returns-in-Number : goal.returns-in-Number
returns-in-Number g c = rw c.in-Number.is (within_any (does_yielded c.number_step.ensures))

pub returns-in-Deeper : goal.returns-in-Deeper
returns-in-Deeper g c = rw c.in-Deeper.is (within_any (does_yielded (record { ends = λ s. refl })))

pub returns-in-Attach : goal.returns-in-Attach
returns-in-Attach g c = rw c.in-Attach.is (within_any (does_yielded (record { ends = λ s. refl })))
