-- SPDX-License-Identifier: Apache-2.0
use Rattle.mcommand.proofs.CommandLaws.{◌≡◌, None, map, refl, sym, ◌∙◌}
use Rattle.mlock.proofs.Levels.{absent_from}
use Rattle.mgrammar.specs.RoutineLine.{formals_of}
use Rattle.mlocal.specs.Bindings.{binding_of}
use Rattle.mcommand.proofs.LevelFormals.{none_there, list_missing}
use Rattle.mcommand.proofs.formals.formals_for.Goals as goal

pub returns-then-is_listed : goal.returns-then-is_listed
returns-then-is_listed c =
    let unlisted : formals_of c.args.language c.args.line.now ≡ None = absent_from _ (sym c.has_formal_list.ensures ∙ c.if-has_formal_list.false) in
    rw unlisted (list_missing c.args.is_listed (map binding_of c.args.bindings.items) c.if-is_listed.true)

pub returns : goal.returns
returns c =
    let unlisted : formals_of c.args.language c.args.line.now ≡ None = absent_from _ (sym c.has_formal_list.ensures ∙ c.if-has_formal_list.false) in
    rw unlisted (none_there c.args.is_listed (map binding_of c.args.bindings.items) _ c.if-is_listed.false refl)
