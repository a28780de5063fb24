-- SPDX-License-Identifier: Apache-2.0
-- Globals on examples, as proved equations. What a line asks of the world is followed one operation after another.
use Rattle.mmeaning.proofs.MeaningWords.{Bool, cond, Option, ap, ◌∙◌, eq_by_cmp, nat_cmp, get, insert, retain_keys, get-insert, get-empty, Op, Answer, Plan}
use Rattle.mmeaning.proofs.MeaningWords.{Done, Ask, Ops, perform, Outcome, Fails, State, LineTree, line_in, Completion, Reply, World, Session, normal, kept}
use Rattle.mmeaning.proofs.MeaningWords.{Halted, Faulted, settled, ended, begun, is_too_long, is_ascii, not, option_map, get_cut, node_cmp_total}
use Rattle.mmeaning.proofs.MeaningWords.{node_cmp_exact, computes, Code, is_halting, Own, M1, M7, Zsub, node_cmp, significant_digits, is_node_within, status}
use Rattle.mmeaning.proofs.MeaningWords.{Shared, act, Text, Node}
use Rattle.mmeaning.proofs.ExampleAccount.{alice}
use Rattle.mmeaning.proofs.LineRuns.{event, shut, shut_run, shut_step, line_is}
use Rattle.mmeaning.proofs.Running.{◌≡◌, List, [], ◌∷◌, Some, None, true, false, refl, codes, empty, gets, Globals, new_session, opening, account, done, failed}
use Rattle.mmeaning.proofs.Running.{AreAnswered, at_last, Anywhere, runs}

-- ---- operations, one after another

abbrev doing : Ops Shared
doing = act alice 1 (codes "ALICE")

-- a plan that is carried out has this outcome, and leaves this world
record Comes (p : Plan (Outcome Completion)) (w : Shared) (r : Outcome Completion × Shared) : Type 0 where
  is : perform doing p w ≡ r

asked : {op : Op} {k : Answer op → Plan (Outcome Completion)} {w w' : Shared} {r : Outcome Completion × Shared} (a : Answer op) → doing op w ≡ (a, w') → Comes (k a) w' r → Comes (Ask op k) w r
asked {k = k} a is rest = record { is = ap (λ x. perform doing (k x.0) x.1) is ∙ rest.is }

finished : {o : Outcome Completion} {w : Shared} → Comes (Done o) w (o, w)
finished = record { is = refl }

same : {A : Type 0} {a b : A} {w : Shared} → a ≡ b → ◌≡◌ {A = A × Shared} (a, w) (b, w)
same {w = w} e = ap (λ a. (a, w)) e

opened : (g : Globals) (t : Text) (l : Option LineTree) → is_too_long t ≡ false → is_ascii t ≡ true
    → shut_step alice (event t) l (opening g) ≡ ended 1 (opening g) (perform doing (shut_run (codes "ALICE") l (begun 1 account new_session)) (opening g).shared)
opened g t l short ascii = simp (gets, short, ascii)

-- a line over these globals, by what its operations do
answers : {g : Globals} {t : Text} {r : Outcome Completion × Shared} (l : Option LineTree) → line_in 0 t ≡ l → is_too_long t ≡ false → is_ascii t ≡ true
    → Comes (shut_run (codes "ALICE") l (begun 1 account new_session)) (opening g).shared r → AreAnswered account (opening g) (t ∷ []) ((ended 1 (opening g) r).0 ∷ [])
answers {g = g} {t = t} l tree short ascii run = at_last l tree (ap (λ x. x.0) (opened g t l short ascii) ∙ ap (λ r. (ended 1 (opening g) r).0) run.is)

-- after a line over these globals that ends in a code, this is the node that was referred to last
record Refers (g : Globals) (t : Text) (last : Option Node) : Type 0 where
  is : option_map (λ (s : Session). s.naked) (get (normal alice (event t) (opening g)).1.sessions 1) ≡ Some last

kept_session : (s : Session) → get (insert (empty {X = Session} {R = nat_cmp}) 1 s) 1 ≡ Some s
kept_session s = simp gets

refers : {g : Globals} {t : Text} {c : Code} {s : State} {w : Shared} (l : Option LineTree) → line_in 0 t ≡ l → is_too_long t ≡ false → is_ascii t ≡ true
    → Comes (shut_run (codes "ALICE") l (begun 1 account new_session)) (opening g).shared (Fails c s, w) → is_halting c ≡ false → Refers g t s.naked
refers {g = g} {t = t} {c = c} {s = s} {w = w} l tree short ascii run on = record {
  is =
      ap (λ (x : Reply × World). option_map (λ (s : Session). s.naked) (get x.1.sessions 1))
      (line_is account (opening g) t l tree ∙ opened g t l short ascii ∙ ap (ended 1 (opening g)) run.is)
      ∙ ap (λ (b : Bool). option_map (λ (s : Session). s.naked) (get (settled 1 (opening g) (cond b Halted (Faulted (Own c))) s w).sessions 1)) on
      ∙ ap (option_map (λ (s : Session). s.naked)) (kept_session (kept s));
}

-- ---- the maps of texts by their nodes

node_none : (n : Node) → get (empty {X = Text} {R = node_cmp significant_digits}) n ≡ None
node_none n = get-empty (node_cmp significant_digits) n

node_put : (g : Globals) (k : Node) (x : Text) (n : Node) → get (insert g k x) n ≡ cond (eq_by_cmp (node_cmp significant_digits) n k) (Some x) (get g n)
node_put g k x n = get-insert (node_cmp_total significant_digits) g k x n

node_kept : (g : Globals) (p : Node → Bool) (n : Node) → get (retain_keys g p) n ≡ cond (p n) (get g n) None
node_kept g p n = get_cut (node_cmp_total significant_digits) (node_cmp_exact significant_digits) g p n

abbrev at : Text → List Text → Node
at name xs = record { account = codes "ALICE"; name = name; subscripts = xs }

record GlobalsAsked : Type 0 where
  -- what is read is what was set
  read_back : Anywhere (codes "S ^A(\"x\")=\"y\" W ^A(\"x\")" ∷ []) (done (codes "y") ∷ [])
  -- a global that has no text
  undefined_global : AreAnswered account (opening empty) (codes "W ^A" ∷ []) (failed [] M7 ∷ [])
  -- a naked reference stands beside the node that was referred to last, whose last subscript it replaces
  beside_the_last : Anywhere (codes "S ^A(\"x\",\"y\")=\"1\",^(\"z\",\"u\")=\"2\" W ^A(\"x\",\"z\",\"u\")" ∷ []) (done (codes "2") ∷ [])
  -- and needs one with a subscript
  no_last_reference : Anywhere (codes "W ^(\"x\")" ∷ []) (failed [] M1 ∷ [])
  no_last_subscript : Anywhere (codes "S ^A=\"1\",^(\"x\")=\"2\"" ∷ []) (failed [] M1 ∷ [])
  -- a refused subscript: the account was asked for first
  refused_subscript : Anywhere (codes "S ^A(\"\")=\"1\"" ∷ []) (failed [] Zsub ∷ [])
  -- KILL takes a node with what is below it
  kill_takes_descendants : Anywhere (codes "K ^A(\"x\") W ^A(\"x\",\"y\")" ∷ []) (failed [] M7 ∷ [])
  -- $DATA of a node that has texts below it alone
  data_of_descendants : (g : Globals) → status g (at (codes "A") (codes "x" ∷ [])) ≡ (false, true) → AreAnswered account (opening g) (codes "W $D(^A(\"x\"))" ∷ []) (done (codes "10") ∷ [])

globals : GlobalsAsked
unfolding runs shut computes
globals = record {
  read_back = λ g. answers _ refl refl refl (asked true refl (asked tt refl (asked true refl (asked (Some (codes "y")) (same (node_put g (at (codes "A") (codes "x" ∷ [])) (codes "y") (at (codes "A") (codes "x" ∷ [])))) finished))));
  undefined_global = answers _ refl refl refl (asked true refl (asked None (same (node_none (at (codes "A") []))) finished));
  beside_the_last = λ g. answers _ refl refl refl (asked true refl (asked tt refl (asked true refl (asked tt refl (asked true refl (asked (Some (codes "2")) (same (node_put (insert g (at (codes "A") (codes "x" ∷ codes "y" ∷ [])) (codes "1")) (at (codes "A") (codes "x" ∷ codes "z" ∷ codes "u" ∷ [])) (codes "2") (at (codes "A") (codes "x" ∷ codes "z" ∷ codes "u" ∷ [])))) finished))))));
  no_last_reference = λ g. answers _ refl refl refl finished;
  no_last_subscript = λ g. answers _ refl refl refl (asked true refl (asked tt refl finished));
  refused_subscript = λ g. answers _ refl refl refl (asked true refl finished);
  kill_takes_descendants = λ g. answers _ refl refl refl (asked true refl (asked tt refl (asked true refl (asked None (same (node_kept g (λ m. not (is_node_within (at (codes "A") (codes "x" ∷ [])) m)) (at (codes "A") (codes "x" ∷ codes "y" ∷ [])))) finished))));
  data_of_descendants = λ g is. answers _ refl refl refl (asked true refl (asked (false, true) (same is) finished));
}

record Referred : Type 0 where
  -- a node without a text is referred to all the same
  undefined_is_referred_to : Refers empty (codes "W ^A(\"x\")") (Some (at (codes "A") (codes "x" ∷ [])))
  -- but none whose subscript is refused
  refused_is_not : (g : Globals) → Refers g (codes "S ^A(\"x\")=\"1\",^(\"\")=\"2\"") (Some (at (codes "A") (codes "x" ∷ [])))

referred : Referred
unfolding runs shut computes
referred = record {
  undefined_is_referred_to = refers _ refl refl refl (asked true refl (asked None (same (node_none (at (codes "A") (codes "x" ∷ [])))) finished)) refl;
  refused_is_not = λ g. refers _ refl refl refl (asked true refl (asked tt refl (asked true refl finished))) refl;
}
