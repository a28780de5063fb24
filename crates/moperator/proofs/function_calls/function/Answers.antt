-- SPDX-License-Identifier: Apache-2.0
use Rattle.moperator.proofs.function_calls.function.Goals as goal

pub returns-in-FormatNumber-clause-value : goal.returns-in-FormatNumber-clause-value
returns-in-FormatNumber-clause-value c = rw c.in-FormatNumber.is c.formatted.ensures

pub returns-in-Justify-clause-value : goal.returns-in-Justify-clause-value
returns-in-Justify-clause-value c = rw c.in-Justify.is c.justified.ensures

pub returns-in-Length-clause-value : goal.returns-in-Length-clause-value
returns-in-Length-clause-value c = rw c.in-Length.is c.length.ensures

pub returns-in-Reverse-clause-value : goal.returns-in-Reverse-clause-value
returns-in-Reverse-clause-value c = rw c.in-Reverse.is c.reversed.ensures

pub returns-in-Translate-clause-value : goal.returns-in-Translate-clause-value
returns-in-Translate-clause-value c = rw c.in-Translate.is c.translated.ensures

pub returns-in-NameLength-clause-value : goal.returns-in-NameLength-clause-value
returns-in-NameLength-clause-value c = rw c.in-NameLength.is c.name_length.ensures

pub returns-in-NameSubscript-clause-value : goal.returns-in-NameSubscript-clause-value
returns-in-NameSubscript-clause-value c = rw c.in-NameSubscript.is c.name_subscript.ensures
