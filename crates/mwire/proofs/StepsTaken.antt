-- SPDX-License-Identifier: Apache-2.0
-- Lines that are steps, one after another.
use Rattle.mwire.proofs.WireWords.{◌≡◌, ◌++◌, ℕ, zero, suc, Bool, false, not, List, [], ◌∷◌, refl, sym, ap, ◌∙◌, subst, arith, append_assoc, IsTrue, Settings}
use Rattle.mwire.proofs.WireWords.{World, Event, Reply, Transition, History, is_failure, Ghosts, Doubts, Doubts-on, Doubts-same, undoubted, Seen, AreSteps}
use Rattle.mwire.proofs.WireWords.{StepsUntilShut, StoreSufficed, StoreSufficedForEach}
use Rattle.misolation.proofs.RunsTold.{history_on}

-- a fault shut the store at a later line
until_on : (settings : Settings) (world between : World) (first rest : List (Event × Reply)) → History settings world first between → StepsUntilShut settings between rest → StepsUntilShut settings world (first ++ rest)
until_on settings world between first rest h u = record {
  done = first ++ u.done;
  last = u.last;
  others = u.others;
  of_lines = ap (λ (es : List (Event × Reply)). first ++ es) u.of_lines ∙ sym (append_assoc first u.done (u.last ∷ u.others));
  between = u.between;
  history = history_on settings world between u.between first u.done h u.history;
  failed = u.failed;
}

-- or before the others came
until_first : (settings : Settings) (world : World) (first rest : List (Event × Reply)) → StepsUntilShut settings world first → StepsUntilShut settings world (first ++ rest)
until_first settings world first rest u = record {
  done = u.done;
  last = u.last;
  others = u.others ++ rest;
  of_lines = ap (λ (es : List (Event × Reply)). es ++ rest) u.of_lines ∙ append_assoc u.done (u.last ∷ u.others) rest;
  between = u.between;
  history = u.history;
  failed = u.failed;
}

sufficed_on : (first rest : List (Event × Reply)) → StoreSufficedForEach first → StoreSufficedForEach rest → StoreSufficedForEach (first ++ rest)
sufficed_on [] rest a b = b
sufficed_on (e ∷ es) rest a b = (a.0, sufficed_on es rest a.1 b)

not_false : (b : Bool) → not b ≡ false → IsTrue b
not_false b e = grind arith

module _ {S : Type 0} {g : Ghosts S} {settings : Settings} where
  -- no line
  pub steps_none : {world after : Seen} → after ≡ world → AreSteps g settings world [] after
  steps_none {world = world} {after = after} same = subst (λ (s : Seen). AreSteps g settings world [] s) (sym same) (record {
    history = λ sure. refl;
    doubt = Doubts-same _;
    until_shut = λ before now. absurd (omega (arith, before, now));
    sufficed = λ steady room. tt;
  })

  -- one line
  pub steps_one : {world after : Seen} (e : Event) (reply : Reply) → (after.doubt ≡ 0 → Transition settings e reply world.world after.world)
      → Doubts g.sound world.doubt after.doubt world.has_room after.has_room (not (is_failure reply.ending)) → (g.steady → IsTrue after.has_room → StoreSufficed reply) → AreSteps g settings world ((e, reply) ∷ []) after
  steps_one {world = world} {after = after} e reply transition doubt sufficed = record {
    history = λ sure. (after.world, transition sure, refl);
    doubt = Doubts-on doubt (Doubts-same {is_done = false} _);
    until_shut = λ before now. record { done = []; last = (e, reply); others = []; of_lines = refl; between = world.world; history = refl; failed = not_false _ (doubt.failed before now) };
    sufficed = λ steady room. (sufficed steady room, tt);
  }

  -- some, and then others
  pub steps_on : {world between after : Seen} (first rest : List (Event × Reply)) → AreSteps g settings world first between → AreSteps g settings between rest after → AreSteps g settings world (first ++ rest) after
  steps_on {world = world} {between = between} {after = after} first rest a b = record {
    history = λ sure. history_on settings world.world between.world after.world first rest (a.history (undoubted b.doubt sure)) (b.history sure);
    doubt = Doubts-on a.doubt b.doubt;
    until_shut = λ before now. go between.doubt refl before now;
    sufficed = λ steady room. sufficed_on first rest (a.sufficed steady (b.doubt.room room)) (b.sufficed steady room);
  }
    where
      go : (d : ℕ) → between.doubt ≡ d → world.doubt ≡ 0 → after.doubt ≡ 1 → StepsUntilShut settings world.world (first ++ rest)
      go zero is before now = until_on settings world.world between.world first rest (a.history is) (b.until_shut is now)
      go (suc zero) is before now = until_first settings world.world first rest (a.until_shut before is)
      go (suc (suc n)) is before now = absurd (omega (arith, b.doubt.order, is, now))
