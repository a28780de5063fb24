-- SPDX-License-Identifier: Apache-2.0
use Rattle.mexec.proofs.ExecLaws.{◌≡◌, map, refl}
use Rattle.std.proofs.Common.{None}
use Rattle.mgrammar.specs.RoutineLine.{formals_of}
use Rattle.mlocal.specs.Bindings.{binding_of}
use Rattle.mcommand.proofs.LevelFormals.{none_there, list_missing}
use Rattle.mexec.proofs.entering.formals_of_line.Goals as goal

pub returns-then-is_listed : goal.returns-then-is_listed
returns-then-is_listed c =
    let unlisted : formals_of c.args.language c.args.line.now ≡ None = c.may_have_formal_list.ensures.lacks c.if-may_have_formal_list.false in
    rw unlisted (list_missing c.args.is_listed (map binding_of c.args.bindings.items) c.if-is_listed.true)

pub returns : goal.returns
returns c =
    let unlisted : formals_of c.args.language c.args.line.now ≡ None = c.may_have_formal_list.ensures.lacks c.if-may_have_formal_list.false in
    rw unlisted (none_there c.args.is_listed (map binding_of c.args.bindings.items) _ c.if-is_listed.false refl)
