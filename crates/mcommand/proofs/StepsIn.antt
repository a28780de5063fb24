-- SPDX-License-Identifier: Apache-2.0
-- The steps of the code are those of the definitions, apart from the call of a function, from what passes steps by, and from what changes how
-- deep the steps are. Where a step looks for an item, a stack that has it comes first, and then all others.
use Rattle.mcommand.proofs.CommandWords.{◌≡◌, true, false, List, ◌∷◌, Option, refl, sym, Act}
use Rattle.std.proofs.lemmas.Bool.{false≢true}
use Rattle.mmeaning.specs.LineMeaning.{Context}
use Rattle.mmeaning.specs.Programs.{Targets, Target, Part, Names, Name, Numbers, Number}
use Rattle.mmeaning.specs.Programs.{Item, one_value, some_values, some_numbers, some_names, made, found, placed, walked, handing, step, plain, Op}
use Rattle.mmeaning.specs.Programs.{Operand, Tail, Spend, Sign, Join}
use Rattle.mmeaning.specs.Programs.{Raise, Match, Match_not, Values, Add, Function, Begin, Actual, Hand, Hand_name, Call, Where, Formats, Prepare, Local}
use Rattle.mmeaning.specs.Programs.{Global, Naked, Extended, Named, Read, Data, Resolve, Get, Walk, Order, Tell_name, Increment, Unless, Pass, Refuse}
use Rattle.mmeaning.specs.Programs.{Seek, Query, sought, Deeper, Attach}
use Rattle.mcommand.specs.Steps.{step_in, is_call}

pub step_is : (x : Context) (o : Op) (st : List Item) → is_call o ≡ false → ◌≡◌ {A = Act (Option (List Item))} (step x o st) (step_in (plain x) o st)
step_is x (Operand o) st h = refl
step_is x (Tail t) (one_value v ∷ st) h = refl
step_is x (Tail t) st h = refl
step_is x Spend st h = refl
step_is x (Sign signs) (one_value v ∷ st) h = refl
step_is x (Sign signs) st h = refl
step_is x (Join d) (one_value w ∷ one_value v ∷ st) h = refl
step_is x (Join d) st h = refl
step_is x Raise (one_value w ∷ one_value v ∷ st) h = refl
step_is x Raise st h = refl
step_is x Match (one_value t ∷ one_value v ∷ st) h = refl
step_is x Match st h = refl
step_is x Match_not (one_value t ∷ one_value v ∷ st) h = refl
step_is x Match_not st h = refl
step_is x Values st h = refl
step_is x Add (one_value v ∷ some_values vs ∷ st) h = refl
step_is x Add st h = refl
step_is x (Function word) (some_values vs ∷ st) h = refl
step_is x (Function word) st h = refl
step_is x Begin st h = refl
step_is x (Actual a) (handing b bs ∷ st) h = refl
step_is x (Actual a) st h = refl
step_is x Hand (one_value v ∷ handing b bs ∷ st) h = refl
step_is x Hand st h = refl
step_is x Hand_name (one_value v ∷ handing b bs ∷ st) h = refl
step_is x Hand_name st h = refl
step_is x (Call e) st h = absurd (false≢true (sym h))
step_is x Where (one_value v ∷ st) h = refl
step_is x Where st h = refl
step_is x (Formats run) st h = refl
step_is x (Prepare d) st h = refl
step_is x (Local name) (some_values vs ∷ st) h = refl
step_is x (Local name) st h = refl
step_is x (Global name) (some_values vs ∷ st) h = refl
step_is x (Global name) st h = refl
step_is x Naked (some_values vs ∷ st) h = refl
step_is x Naked st h = refl
step_is x (Extended name) (some_values vs ∷ one_value owner ∷ st) h = refl
step_is x (Extended name) st h = refl
step_is x (Named subscripts) (one_value v ∷ st) h = refl
step_is x (Named subscripts) st h = refl
step_is x Read (found r ∷ st) h = refl
step_is x Read st h = refl
step_is x Data (found r ∷ st) h = refl
step_is x Data st h = refl
step_is x Resolve (found r ∷ st) h = refl
step_is x Resolve st h = refl
step_is x Get (some_values vs ∷ placed p ∷ st) h = refl
step_is x Get st h = refl
step_is x Walk (found r ∷ st) h = refl
step_is x Walk st h = refl
step_is x Order (some_values vs ∷ walked p ∷ st) h = refl
step_is x Order st h = refl
step_is x Tell_name (some_values vs ∷ found r ∷ st) h = refl
step_is x Tell_name st h = refl
step_is x Increment (some_values vs ∷ found r ∷ st) h = refl
step_is x Increment st h = refl
step_is x Seek (found r ∷ st) h = refl
step_is x Seek st h = refl
step_is x Query (some_values vs ∷ sought p ∷ st) h = refl
step_is x Query st h = refl
step_is x Targets st h = refl
step_is x Target (found r ∷ made ps ∷ st) h = refl
step_is x Target st h = refl
step_is x (Part word) (some_values vs ∷ found r ∷ made ps ∷ st) h = refl
step_is x (Part word) st h = refl
step_is x Names st h = refl
step_is x Name (found r ∷ some_names ns ∷ st) h = refl
step_is x Name st h = refl
step_is x Numbers st h = refl
step_is x Number (one_value v ∷ some_numbers ns ∷ st) h = refl
step_is x Number st h = refl
step_is x (Unless n) st h = absurd (false≢true (sym h))
step_is x (Pass n) st h = absurd (false≢true (sym h))
step_is x Deeper st h = absurd (false≢true (sym h))
step_is x Attach st h = absurd (false≢true (sym h))
step_is x (Refuse c) st h = refl
