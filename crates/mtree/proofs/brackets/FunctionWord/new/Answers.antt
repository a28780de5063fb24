-- SPDX-License-Identifier: Apache-2.0
use Rattle.std.proofs.Common.{refl, sym}
use Rattle.mtree.specs.Functions.{value_function_tree}
use Rattle.mtree.proofs.brackets.FunctionWord.new.Goals as goal

pub returns-in-OfValues : goal.returns-in-OfValues
returns-in-OfValues c =
    let said = rw (c.as_bytes.ensures.bytes, c.in_ok-function.was, c.in-OfValues.is) at c.function_row.ensures.function in
    (refl, value_function_tree c.in-OfValues.function, sym said)
