-- SPDX-License-Identifier: Apache-2.0
-- When a reply says that the store failed.
use Rattle.mworld.proofs.WorldWords.{◌≡◌, List, [], ◌∷◌, ◌++◌, Lost, Store, arith}
use Rattle.std.specs.Prelude.{◌≢◌}
use Rattle.std.proofs.lemmas.List.Elements.{All-append, All-cons, All-nil}
use Rattle.mmeaning.specs.Transition.{Faulted}
use Rattle.misolation.specs.Telling as telling
use Rattle.moperator.specs.Codes.{fault_of}
use Rattle.moperator.specs.declared.code.Code.{Code}
use Rattle.moperator.specs.declared.code.Code.TheVariants.{Zstore}
use Rattle.mexec.specs.declared.text.Ended.{Ended}
use Rattle.mexec.specs.declared.text.Ended.TheVariants.{Done, Fault, Halt}
use Rattle.mexec.specs.Runs.{ending_of}
use Rattle.mworld.specs.Sufficed.{StoreSufficed, StoreSufficedForTold}

-- one code alone stands for it
of_store : (c : Code) → fault_of c ≡ Lost Store → c ≡ Zstore
of_store c h = grind arith

pub store_sufficed : (ending : Ended) → ◌≢◌ {A = Ended} ending (Fault Zstore) → ending_of ending ≢ Faulted (Lost Store)
store_sufficed Done other told = cc
store_sufficed Halt other told = cc
store_sufficed (Fault c) other told = let same : fault_of c ≡ Lost Store = cc in other (λ i. Fault (of_store c same i))

-- and one reply more
pub told_more : (told : List telling.Told) (t : telling.Told) → StoreSufficed t.reply → StoreSufficedForTold told → StoreSufficedForTold (told ++ t ∷ [])
told_more told t one before =
    let P : telling.Told → Type 0 = λ t. StoreSufficed t.reply in
    All-append P told (t ∷ []) before (All-cons P t [] one (All-nil P))
