-- SPDX-License-Identifier: Apache-2.0
use Rattle.mglobal.proofs.GlobalWords.{rules, IsApart}
use Rattle.std.proofs.lemmas.Fn.{All-from_retain}
use Rattle.mglobal.proofs.copies.forget.Goals as goal

pub returns-clause-apart : goal.returns-clause-apart
returns-clause-apart c = All-from_retain _ (IsApart c.args.written.now) _ (λ x b f' k. search rules) _ _ c.retain.ensures.filtered
