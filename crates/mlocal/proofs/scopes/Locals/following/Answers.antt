-- SPDX-License-Identifier: Apache-2.0
use Rattle.mlocal.proofs.LocalLaws.{ap, ◌∙◌, way, IfOk-map}
use Rattle.std.specs.FinMap as map
use Rattle.mspec.specs.Trees.{following}
use Rattle.mlocal.proofs.Searches.{none_follows}
use Rattle.mlocal.proofs.scopes.Locals.following.Goals as goal

pub returns-in-None : goal.returns-in-None
returns-in-None c =
    none_follows (way c.args.direction) c.args.subs.now ∙ ap (λ t. following (way c.args.direction) c.args.subs.now (map.keys t)) c.in-None.ensures

pub returns-in-Some : goal.returns-in-Some
returns-in-Some c =
    let subs = c.args.subs.now in
    IfOk-map c.following.result (λ found is. is ∙ ap (λ t. following (way c.args.direction) subs (map.keys t)) c.in-Some.ensures) c.following.ensures
