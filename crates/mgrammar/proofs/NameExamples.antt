-- SPDX-License-Identifier: Apache-2.0
-- Names taken apart and put together on examples, as proved equations. The parts are GT.M's; what only GT.M takes for a name is said there.
use Rattle.mgrammar.proofs.GrammarWords.{◌≡◌, ℕ, List, [], ◌∷◌, Option, Some, None, map, rules, codes}
use Rattle.mgrammar.specs.NameValues.{NameValue, name_value_of, value_after, environment_at, name_subscripts_at, name_subscript_at}
use Rattle.mgrammar.specs.NameValues.{subscripts_text, global_text}
use Rattle.mspec.proofs.ComputedNumbers.{computes}
use Rattle.mgrammar.specs.ReadingWords.{many, list_at, name_at}

abbrev parts : List ℕ → List ℕ → List (List ℕ) → Option NameValue
parts environment name subscripts = Some (record { environment = environment; name = name; subscripts = subscripts })

record AreNames : Type 0 where
  local : name_value_of (codes "A1") ≡ parts [] (codes "A1") []
  global : name_value_of (codes "^%") ≡ parts [] (codes "^%") []
  numbers : name_value_of (codes "A(1,-.5,0)") ≡ parts [] (codes "A") (codes "1" ∷ codes "-.5" ∷ codes "0" ∷ [])
  strings : name_value_of (codes "A(\"p\"\"q\",\"a,b)\",\"1.0\")") ≡ parts [] (codes "A") (codes "p\"q" ∷ codes "a,b)" ∷ codes "1.0" ∷ [])
  empty_string : name_value_of (codes "A(\"\")") ≡ parts [] (codes "A") ([] ∷ [])
  environment : name_value_of (codes "^|\"a\"\"b\"|A(\"x\",2)") ≡ parts (codes "a\"b") (codes "^A") (codes "x" ∷ codes "2" ∷ [])
  empty_environment : name_value_of (codes "^|\"\"|A") ≡ parts [] (codes "^A") []

are_names : AreNames
unfolding computes many list_at name_at name_value_of value_after environment_at name_subscripts_at name_subscript_at
are_names = search rules

abbrev AreNone : List (List ℕ) → Type 0
AreNone ts = map name_value_of ts ≡ map (λ t. None) ts

record AreNoNames : Type 0 where
  no_name : AreNone ([] ∷ codes "1" ∷ codes "^" ∷ codes "^(1)" ∷ codes "@A" ∷ codes "$A" ∷ codes " A" ∷ codes "A " ∷ codes "A%" ∷ codes "A.B" ∷ [])
  no_list : AreNone (codes "A(" ∷ codes "A()" ∷ codes "A(1" ∷ codes "A(1,)" ∷ codes "A(,1)" ∷ codes "A(1,,2)" ∷ codes "A(1)(2)" ∷ codes "A(1)x" ∷ [])
  no_number : AreNone (codes "A(01)" ∷ codes "A(1.0)" ∷ codes "A(+1)" ∷ codes "A(--1)" ∷
      codes "A(0.5)" ∷ codes "A(-0)" ∷ codes "A(-)" ∷ codes "A(1E2)" ∷ codes "A( 1)" ∷ [])
  no_value : AreNone (codes "A(B)" ∷ codes "A(\"x)" ∷ codes "A(\"a\"b)" ∷ [])
  no_environment : AreNone (codes "^|E|A" ∷ codes "|\"E\"|A" ∷ codes "^|\"E\"A" ∷ codes "^|\"E\"|" ∷ [])
  -- GT.M takes these for names
  of_gtm : AreNone (codes "A(1.)" ∷ codes "A($C(65))" ∷ codes "^[\"X\"]A(1)" ∷ codes "A(1234567890123456789)" ∷ [])

are_no_names : AreNoNames
unfolding computes many list_at name_at name_value_of value_after environment_at name_subscripts_at name_subscript_at
are_no_names = search rules

record ArePutTogether : Type 0 where
  none : subscripts_text [] ≡ []
  numbers : subscripts_text (codes "1" ∷ codes "-.5" ∷ []) ≡ codes "(1,-.5)"
  strings : subscripts_text (codes "1.0" ∷ codes "a\"b" ∷ [] ∷ []) ≡ codes "(\"1.0\",\"a\"\"b\",\"\")"
  own_global : global_text None (codes "A") ≡ codes "^A"
  other_global : global_text (Some (codes "a\"b")) (codes "A") ≡ codes "^|\"a\"\"b\"|A"

are_put_together : ArePutTogether
unfolding computes
are_put_together = search rules
