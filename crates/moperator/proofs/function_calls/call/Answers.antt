-- SPDX-License-Identifier: Apache-2.0
use Rattle.moperator.proofs.OperatorWords.{sym, subst, Act, Text, Yields, fault_of}
use Rattle.mtree.proofs.WordFunctions.{one_function}
use Rattle.moperator.proofs.CalledWords.{called}
use Rattle.moperator.proofs.function_calls.call.Goals as goal

pub returns-clause-value : goal.returns-clause-value
returns-clause-value c =
    let is = c.function.ensures in
    subst (λ (act : Act Text). Yields fault_of act (λ (v : Text). v) c.function-2.result) (sym (called c.args.word.now _ c.args.arguments.now is)) c.function-2.ensures.value

pub returns-clause-characters : goal.returns-clause-characters
returns-clause-characters c is = c.function-2.ensures.characters (one_function c.args.word.now _ _ c.function.ensures is)
