-- SPDX-License-Identifier: Apache-2.0
use Rattle.mcommand.proofs.CommandLaws.{Some, map, arith, refl, ap}
use Rattle.mmeaning.specs.Programs.{listed}
use Rattle.mlocal.specs.Bindings.{binding_of}
use Rattle.mcommand.proofs.LevelFormals.{none_there, list_missing, too_many_for, enough_for}
use Rattle.mcommand.proofs.formals.formals_lent.Goals as goal

pub returns-then-is_listed : goal.returns-then-is_listed
returns-then-is_listed c = rw c.in-None.is (list_missing c.args.is_listed (map binding_of c.args.bindings.items) c.if-is_listed.true)

pub returns-in-None : goal.returns-in-None
returns-in-None c = rw c.in-None.is (none_there c.args.is_listed (map binding_of c.args.bindings.items) _ c.if-is_listed.false refl)

pub returns-then-len : goal.returns-then-len
returns-then-len c =
    rw c.in-Some.is (too_many_for (listed c.args.is_listed) c.in-Some.names.items c.args.bindings.items binding_of (omega arith))

pub returns : goal.returns
returns c =
    rw c.in-Some.is
    (enough_for (listed c.args.is_listed) c.in-Some.names.items c.args.bindings.items binding_of _ (omega arith)
    (ap Some (rw c.deref.ensures.value at c.in_ok-formals-in-Some.ensures)))
