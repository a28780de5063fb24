-- SPDX-License-Identifier: Apache-2.0
use Rattle.mlocal.proofs.LocalWords.{rules, is_among}
use Rattle.std.proofs.lemmas.Fn.{filter_same}
use Rattle.mlocal.proofs.scope.common.Goals as goal

pub returns : goal.returns
returns c = filter_same _ (is_among c.args.old.now) _ (λ x b f' k. search rules) _ _ c.retain.ensures.filtered
