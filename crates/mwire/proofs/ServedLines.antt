-- SPDX-License-Identifier: Apache-2.0
-- The answers of a history of normal steps.
use Rattle.mwire.proofs.WireWords.{Doubts-same, arith, ◌≡◌, ◌++◌, List, [], ◌∷◌, true, false, refl, sym, ap, ◌∙◌, lines, Text, Settings, World, Event, Reply}
use Rattle.mwire.proofs.WireWords.{normal, is_failure, replies, world_after, answered, opening, Ghosts, WireLine, classify, before_events, events_of}
use Rattle.mwire.proofs.WireWords.{line_served, lines_served, StoreSufficed, StoreSufficedForEach, line_text, replies_behind, answer_text}
use Rattle.mwire.proofs.WireWords.{NormalAnswersAreServed, NormalStreamsAreServed, LinesHaveAnswers, map}
use Rattle.mmeaning.proofs.Histories.{normal_never_fails, normal_transitions_are_history, history_is_normal}

line_is_served : (settings : Settings) (world : World) (more : List Text) (wire_line : WireLine)
    → ((s : World) → answer_text more (replies settings s (events_of more)) ≡ lines_served settings s more)
    → line_text wire_line (replies settings world (before_events wire_line (events_of more))) ++ answer_text more (replies_behind wire_line (replies settings world (before_events wire_line (events_of more))))
    ≡ (line_served settings world wire_line).0 ++ lines_served settings (line_served settings world wire_line).1 more
line_is_served settings world more wire_line h = grind arith

-- the replies of normal steps make the bytes of the definitional interpreter
lines_are_served : (settings : Settings) (world : World) (all : List Text) → answer_text all (replies settings world (events_of all)) ≡ lines_served settings world all
lines_are_served settings world [] = refl
lines_are_served settings world (line ∷ more) = line_is_served settings world more (classify line) (λ s. lines_are_served settings s more)

pub normal_answers_are_served : {S : Type 0} {g : Ghosts S} → NormalAnswersAreServed g
normal_answers_are_served settings before after all bytes answers sure none =
    let world = before.world in
    let normal_history = history_is_normal settings world after.world answers.trace (answers.steps.history sure) none in (
      answers.text
          ∙ (ap (answer_text all) (normal_history.0 ∙ ap (replies settings world) answers.events) ∙ lines_are_served settings world all),
      normal_history.1 ∙ ap (world_after settings world) answers.events,
    )

pub normal_streams_are_served : {S : Type 0} {g : Ghosts S} → NormalStreamsAreServed g
normal_streams_are_served settings globals doubt has_room after stream bytes answers sure none =
    (normal_answers_are_served settings (record { world = opening globals; doubt = doubt; has_room = has_room }) after (lines stream) bytes answers sure none).0

events_of_answered : (settings : Settings) (world : World) (es : List Event) → map (λ e. e.0) (answered settings world es) ≡ es
events_of_answered settings world [] = refl
events_of_answered settings world (e ∷ es) = ap (λ xs. e ∷ xs) (events_of_answered settings (normal settings e world).1 es)

replies_of_answered : (settings : Settings) (world : World) (es : List Event) → map (λ e. e.1) (answered settings world es) ≡ replies settings world es
replies_of_answered settings world [] = refl
replies_of_answered settings world (e ∷ es) = ap (λ xs. (normal settings e world).0 ∷ xs) (replies_of_answered settings (normal settings e world).1 es)

-- a reply that is no failure does not tell of the store's
sufficed_by : (reply : Reply) → is_failure reply.ending ≡ false → StoreSufficed reply
sufficed_by reply fine told = let lost : true ≡ false = sym (ap is_failure told) ∙ fine in cc

store_sufficed : (settings : Settings) (world : World) (es : List Event) → StoreSufficedForEach (answered settings world es)
store_sufficed settings world [] = tt
store_sufficed settings world (e ∷ es) =
    (sufficed_by (normal settings e world).0 (normal_never_fails settings e world), store_sufficed settings (normal settings e world).1 es)

pub lines_have_answers : {S : Type 0} {g : Ghosts S} → LinesHaveAnswers g
lines_have_answers settings world doubt has_room all = record {
  trace = answered settings world (events_of all);
  events = events_of_answered settings world (events_of all);
  text = sym (lines_are_served settings world all) ∙ ap (answer_text all) (sym (replies_of_answered settings world (events_of all)));
  steps = record {
    history = λ sure. normal_transitions_are_history settings world (events_of all);
    doubt = Doubts-same _;
    until_shut = λ before now. absurd (omega (arith, before, now));
    sufficed = λ steady room. store_sufficed settings world (events_of all);
  };
}
