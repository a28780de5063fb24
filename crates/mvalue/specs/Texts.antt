-- SPDX-License-Identifier: Apache-2.0
-- The text of what a value is held as.
use Rattle.mspec.specs.Node.{Text}
use Rattle.mspec.specs.NumberText.{number_text}
use Rattle.mnum.specs.Num.{units}
use Rattle.mvalue.specs.declared.value.Kind.{Kind}
use Rattle.mvalue.specs.declared.value.Kind.TheVariants as kind
use Rattle.mvalue.specs.declared.shown.Held.{Held}
use Rattle.mvalue.specs.declared.shown.Held.TheVariants as held

-- a number as its canonical text
abbrev pub kind_text : Kind → Text
kind_text (kind.Number n) = number_text (units n)
kind_text (kind.Text t) = t

abbrev pub held_text : Held → Text
held_text (held.Lent t) = t.now
held_text (held.Printed t) = t
