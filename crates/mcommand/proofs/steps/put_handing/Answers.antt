-- SPDX-License-Identifier: Apache-2.0
use Rattle.mcommand.proofs.CommandLaws.{refl}
use Rattle.moperator.specs.declared.code.Code.TheVariants.{Zmem}
use Rattle.std.proofs.lemmas.List.{map_push}
use Rattle.mlocal.specs.Bindings.{binding_of}
use Rattle.mmeaning.proofs.Yieldings.{yields_wanting}
use Rattle.mcommand.proofs.steps.put_handing.Goals as goal

pub returns-in_err-push : goal.returns-in_err-push
returns-in_err-push c = yields_wanting _ _ Zmem _ refl c.from_residual.ensures

pub returns : goal.returns
returns c = rw (c.in_ok-push.ensures.items, map_push binding_of c.args.bindings.items c.args.binding) at c.put.ensures
