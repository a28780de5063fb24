-- SPDX-License-Identifier: Apache-2.0
-- What is read as a command is spelled so, and what is spelled so is read.
use Rattle.mgrammar.proofs.GrammarWords.{◌≡◌, ℕ, ◌≤◌, Bool, true, false, not, eqb, cond, List, [], ◌∷◌, ◌++◌, length, Option, Some, None, inl, inr, refl, sym}
use Rattle.mgrammar.proofs.GrammarWords.{ap, subst, ◌∙◌, append_assoc, arith, drop, ◌||◌, eqb-true, and_parts, nat_tests, is_letter, is_name_rest, AllAre}
use Rattle.mgrammar.proofs.GrammarWords.{ExprTree, expr, no_tails, operand, PrimaryTree, reference, indirect, no_exprs, ArgTree, formats, coded, shown}
use Rattle.mgrammar.proofs.GrammarWords.{kill_one, tested, loop, executed, locked, hang_for, returned, indirect_args, anew, lock_one, CommandTree, KeywordTree}
use Rattle.mgrammar.proofs.GrammarWords.{for_word, FormTree, set_argument, kill_argument, new_argument, if_argument, for_argument, write_argument, do_argument}
use Rattle.mgrammar.proofs.GrammarWords.{goto_argument, xecute_argument, lock_argument, hang_argument, quit_argument, merge_argument, no_argument, spell_expr}
use Rattle.mgrammar.proofs.GrammarWords.{spell_arg}
use Rattle.mgrammar.proofs.GrammarWords.{spell_args, spell_condition, spell_list, spell_more, spell_command, keyword_of, form_of, takes_args, takes_condition}
use Rattle.mgrammar.proofs.GrammarWords.{max_depth, bare_arg, WellAll, WellList, WellExpr, WellBelow, WellOptional, WellPlain, WellArg, WellCondition}
use Rattle.mgrammar.proofs.GrammarWords.{WellCommand, ◌>>=◌, run_of, after_run, past, list_at, kill_argument_at, new_argument_at, if_argument_at}
use Rattle.mgrammar.proofs.GrammarWords.{write_argument_at, do_argument_at, goto_argument_at, xecute_argument_at, lock_argument_at, hang_argument_at, arg_at}
use Rattle.mgrammar.proofs.GrammarWords.{has_args, args_at, postcondition_by, postcondition_at, command_by, command_at, is_format}
use Rattle.mgrammar.proofs.ReadingBasics.{Takes, Again, Stops, Stops-weaker, Begins, Begins-append, Begins-weaker, goes_on, bind_some, chosen, some_is}
use Rattle.mgrammar.proofs.ReadingBasics.{run_parts, run_again, not_past}
use Rattle.mgrammar.proofs.ReadingLists.{is_comma, one_again, list_takes, list_again}
use Rattle.mgrammar.proofs.ReadingReferences.{Ends, operand_ends, name_or_open, bare_well}
use Rattle.mgrammar.proofs.ReadingPrimaries.{not_on}
use Rattle.mgrammar.proofs.ReadingExprs.{begins_operand, expr_begins}
use Rattle.mgrammar.proofs.ReadingTargets.{set_argument_takes, set_argument_again, set_argument_begins}
use Rattle.mgrammar.proofs.ReadingArguments.{is_colon, Follows, write_argument_takes, write_argument_again, kill_argument_takes, kill_argument_again}
use Rattle.mgrammar.proofs.ReadingArguments.{kill_argument_begins, new_argument_takes, new_argument_again, new_argument_begins, if_argument_takes}
use Rattle.mgrammar.proofs.ReadingArguments.{if_argument_again, if_argument_begins, hang_argument_takes, hang_argument_again, hang_argument_begins}
use Rattle.mgrammar.proofs.ReadingArguments.{quit_argument_takes, quit_argument_again, quit_argument_begins, for_argument_takes, for_argument_again}
use Rattle.mgrammar.proofs.ReadingArguments.{for_argument_begins}
use Rattle.mgrammar.proofs.ReadingLocks.{lock_argument_takes, lock_argument_again, lock_argument_begins}
use Rattle.mgrammar.proofs.ReadingMerges.{merge_argument_takes, merge_argument_again, merge_argument_begins}
use Rattle.mgrammar.proofs.ReadingIndirection.{plain_well, which, settled_takes, settled_again, operand_takes, operand_again, hiding_apart, entrance_apart}
use Rattle.mgrammar.proofs.ReadingIndirection.{leap_apart}
use Rattle.mgrammar.proofs.ReadingEntries.{condition_read, condition_spelled, do_argument_takes, do_argument_again, do_argument_begins, goto_argument_takes}
use Rattle.mgrammar.proofs.ReadingEntries.{goto_argument_again, goto_argument_begins, xecute_argument_takes, xecute_argument_again, xecute_argument_begins}

-- ---- the laws of each form

-- a character that an argument may begin with
abbrev begins_arg : ℕ → Bool
begins_arg c = begins_operand c || is_format c || eqb c 63 || eqb c 42

operand_or_format : (c : ℕ) → begins_operand c ≡ true → begins_arg c ≡ true
operand_or_format c h = rw h refl

format_begins : (c : ℕ) → is_format c ≡ true → begins_arg c ≡ true
format_begins c h = grind (arith, nat_tests)

write_argument_begins : (a : ArgTree) → WellPlain write_argument a → Begins begins_arg (spell_arg a)
write_argument_begins (formats [] None) w = absurd (let none = w.0 in omega (arith, none))
write_argument_begins (formats [] (Some e)) w = refl
write_argument_begins (formats (f ∷ fs) None) w = format_begins f w.1.0
write_argument_begins (formats (f ∷ fs) (Some e)) w = format_begins f w.0.0
write_argument_begins (coded e) w = refl
write_argument_begins (shown e) w = Begins-weaker begins_operand begins_arg (spell_expr e) operand_or_format (expr_begins max_depth e w)
write_argument_begins a w = absurd w

as_arg : (a : ArgTree) → Begins begins_operand (spell_arg a) → Begins begins_arg (spell_arg a)
as_arg a b = Begins-weaker begins_operand begins_arg (spell_arg a) operand_or_format b

-- what may follow the last argument
abbrev pub Closes : List ℕ → Type 0
Closes rest = Follows rest × Stops is_comma rest

-- this many arguments of this form: one of FOR has the commas after it
abbrev pub IsCounted : FormTree → ℕ → Type 0
IsCounted f n = f ≡ for_argument → n ≤ 1

pub record IsForm (f : FormTree) : Type 0 where
  pub takes : Takes spell_arg (WellArg f) (arg_at f)
  pub again : (args : List ArgTree) (rest : List ℕ) → WellList (WellArg f) args → IsCounted f (length args) → Closes rest → list_at (arg_at f) (spell_list spell_arg args ++ rest) ≡ Some (args, rest)
  pub begins : (a : ArgTree) → WellArg f a → Begins begins_arg (spell_arg a)

-- of a form that a comma ends
several_again : (f : FormTree) → Again spell_arg (WellArg f) Follows (arg_at f) → (args : List ArgTree) (rest : List ℕ) → WellList (WellArg f) args → IsCounted f (length args) → Closes rest
    → list_at (arg_at f) (spell_list spell_arg args ++ rest) ≡ Some (args, rest)
several_again f again args rest w n s = list_again spell_arg (WellArg f) (arg_at f) Follows (λ cs. ((refl, refl), refl, refl, refl)) again args rest w s

for_argument_plain : (a : ArgTree) → WellPlain for_argument a → bare_arg a ≡ None
for_argument_plain (loop index parameters) w = refl
for_argument_plain a w = absurd w

-- FOR takes none that a text gives
written_loop : (a : ArgTree) → WellArg for_argument a → WellPlain for_argument a
written_loop (loop index parameters) w = w.0
written_loop (indirect_args f p) w = absurd (let no_text : false ≡ true = w.1 in cc)
written_loop a w = absurd w.0

-- nor does QUIT
quit_argument_plain : (a : ArgTree) → WellPlain quit_argument a → bare_arg a ≡ None
quit_argument_plain (returned e) w = refl
quit_argument_plain a w = absurd w

written_value : (a : ArgTree) → WellArg quit_argument a → WellPlain quit_argument a
written_value (returned e) w = w.0
written_value (indirect_args f p) w = absurd (let no_text : false ≡ true = w.1 in cc)
written_value a w = absurd w.0

no_nothing : (a : ArgTree) → WellArg no_argument a → ⊥
no_nothing (indirect_args f p) w = let no_text : false ≡ true = w.1 in absurd cc
no_nothing a w = w.0

single_again : (args : List ArgTree) (rest : List ℕ) → WellList (WellArg for_argument) args → IsCounted for_argument (length args) → Closes rest
    → list_at (arg_at for_argument) (spell_list spell_arg args ++ rest) ≡ Some (args, rest)
single_again [] rest w n s = absurd w
single_again (a ∷ []) rest w n s = one_again spell_arg (WellArg for_argument) (arg_at for_argument) a rest (for_argument_again a rest (written_loop a w.0) ((s.0.0, s.0.1), s.1)) s.1
single_again (a ∷ b ∷ more) rest w n s = absurd (let le = n refl in omega (arith, le))

-- if arguments that are written begin so
form_begins : (f : FormTree) → ((a : ArgTree) → WellPlain f a → Begins begins_arg (spell_arg a)) → (a : ArgTree) → WellArg f a → Begins begins_arg (spell_arg a)
form_begins f begins a w =
    elim (which f a w) [
      | inl g ↦ subst (λ (y : ArgTree). Begins begins_arg (spell_arg y)) (sym g.1) refl
      | inr v ↦ begins a v.0
    ]

-- how an `@` with this operand alone is read as an expression
abbrev bare : PrimaryTree → ExprTree
bare p = expr (operand [] (reference (indirect p no_exprs))) no_tails

bare_expr_well : (p : PrimaryTree) → WellBelow max_depth p → WellExpr max_depth (bare p)
bare_expr_well p w = (bare_well max_depth p w, tt)

name_ends : (rest : List ℕ) → Follows rest → Stops is_name_rest rest
name_ends rest s = Stops-weaker goes_on is_name_rest rest (λ c h. (name_or_open c h).0) (operand_ends rest s.0.0)

pub is_form : (f : FormTree) → IsForm f
is_form set_argument = record {
  takes = set_argument_takes;
  again = several_again set_argument (λ a rest w s. set_argument_again a rest w (s.0, s.3));
  begins = λ a w. as_arg a (set_argument_begins a w);
}
is_form kill_argument = record {
  takes = settled_takes kill_argument kill_argument_at refl kill_argument_takes;
  again = several_again kill_argument (settled_again kill_argument kill_argument_at (λ p. kill_one (indirect p no_exprs)) (λ p. refl) (bare_well max_depth) (λ a rest w s. kill_argument_again a rest w s.0.0));
  begins = form_begins kill_argument (λ a w. as_arg a (kill_argument_begins a w));
}
is_form new_argument = record {
  takes = operand_takes new_argument new_argument_at hiding_apart refl new_argument_takes;
  again = several_again new_argument (operand_again new_argument new_argument_at hiding_apart (λ a rest w s. new_argument_again a rest w (name_ends rest s)));
  begins = form_begins new_argument (λ a w. as_arg a (new_argument_begins a w));
}
is_form if_argument = record {
  takes = settled_takes if_argument if_argument_at refl if_argument_takes;
  again = several_again if_argument (settled_again if_argument if_argument_at (λ p. tested (bare p)) (λ p. refl) bare_expr_well (λ a rest w s. if_argument_again a rest w s.0));
  begins = form_begins if_argument (λ a w. as_arg a (if_argument_begins a w));
}
is_form for_argument = record {
  takes = λ cs x e. let t = for_argument_takes cs x e in (t.0, plain_well for_argument x.0 t.1 (for_argument_plain x.0 t.1));
  again = single_again;
  begins = form_begins for_argument (λ a w. as_arg a (for_argument_begins a w));
}
is_form write_argument = record {
  takes = settled_takes write_argument write_argument_at refl write_argument_takes;
  again = several_again write_argument (settled_again write_argument write_argument_at (λ p. shown (bare p)) (λ p. refl) bare_expr_well write_argument_again);
  begins = form_begins write_argument write_argument_begins;
}
is_form do_argument = record {
  takes = operand_takes do_argument do_argument_at entrance_apart refl do_argument_takes;
  again = several_again do_argument (operand_again do_argument do_argument_at entrance_apart do_argument_again);
  begins = form_begins do_argument (λ a w. as_arg a (do_argument_begins a w));
}
is_form goto_argument = record {
  takes = operand_takes goto_argument goto_argument_at leap_apart refl goto_argument_takes;
  again = several_again goto_argument (operand_again goto_argument goto_argument_at leap_apart goto_argument_again);
  begins = form_begins goto_argument (λ a w. as_arg a (goto_argument_begins a w));
}
is_form xecute_argument = record {
  takes = settled_takes xecute_argument xecute_argument_at refl xecute_argument_takes;
  again = several_again xecute_argument (settled_again xecute_argument xecute_argument_at (λ p. executed (bare p) None) (λ p. refl) (λ p w. (bare_expr_well p w, tt)) xecute_argument_again);
  begins = form_begins xecute_argument (λ a w. as_arg a (xecute_argument_begins a w));
}
is_form lock_argument = record {
  takes = settled_takes lock_argument lock_argument_at refl lock_argument_takes;
  again = several_again lock_argument (settled_again lock_argument lock_argument_at (λ p. locked anew (lock_one (indirect p no_exprs)) None) (λ p. refl) (λ p w. ((bare_well max_depth p w, refl), tt)) lock_argument_again);
  begins = form_begins lock_argument (λ a w. as_arg a (lock_argument_begins a w));
}
is_form hang_argument = record {
  takes = settled_takes hang_argument hang_argument_at refl hang_argument_takes;
  again = several_again hang_argument (settled_again hang_argument hang_argument_at (λ p. hang_for (bare p)) (λ p. refl) bare_expr_well (λ a rest w s. hang_argument_again a rest w s.0));
  begins = form_begins hang_argument (λ a w. as_arg a (hang_argument_begins a w));
}
is_form quit_argument = record {
  takes = λ cs x e. let t = quit_argument_takes cs x e in (t.0, plain_well quit_argument x.0 t.1 (quit_argument_plain x.0 t.1));
  again = several_again quit_argument (λ a rest w s. quit_argument_again a rest (written_value a w) s.0);
  begins = form_begins quit_argument (λ a w. as_arg a (quit_argument_begins a w));
}
is_form merge_argument = record {
  takes = merge_argument_takes;
  again = several_again merge_argument merge_argument_again;
  begins = λ a w. as_arg a (merge_argument_begins a w);
}
is_form no_argument = record {
  takes = λ cs x e. absurd cc;
  again = several_again no_argument (λ a rest w s. absurd (no_nothing a w));
  begins = λ a w. absurd (no_nothing a w);
}

-- ---- arguments

args_stand : (cs : List ℕ) → has_args cs ≡ true → cs ≡ 32 ∷ drop 1 cs
args_stand [] h = absurd cc
args_stand (c ∷ []) h = absurd cc
args_stand (c ∷ d ∷ cs) h =
    let at : c ≡ 32 = eqb-true c 32 (and_parts (eqb c 32) (not (eqb d 32 || eqb d 59)) h).0 in
    ap (λ (y : ℕ). y ∷ d ∷ cs) at

args_takes : (f : FormTree) → Takes spell_args (WellAll (WellArg f)) (args_at f)
unfolding args_at
args_takes f cs x e =
    let Are : List ArgTree × List ℕ → Type 0 = λ y. (cs ≡ spell_args y.0 ++ y.1) × WellAll (WellArg f) y.0 in
    elim (chosen (has_args cs) (list_at (arg_at f) (drop 1 cs)) (Some ([], cs)) (Some x) e) [
      | inl p ↦ listed f cs x (args_stand cs p.0) (list_takes spell_arg (WellArg f) (arg_at f) ((is_form f).takes) (drop 1 cs) x p.1)
      | inr p ↦ subst Are (some_is ([], cs) x p.1) (refl, tt)
    ]
  where
    listed : (f : FormTree) (cs : List ℕ) (x : List ArgTree × List ℕ) → cs ≡ 32 ∷ drop 1 cs → (drop 1 cs ≡ spell_list spell_arg x.0 ++ x.1) × WellList (WellArg f) x.0
        → (cs ≡ spell_args x.0 ++ x.1) × WellAll (WellArg f) x.0
    listed f cs ([], rest) p t = absurd t.1
    listed f cs (a ∷ more, rest) p t = (p ∙ ap (λ (y : List ℕ). 32 ∷ y) t.0, t.1)

-- what may follow these arguments
abbrev pub After : List ArgTree → List ℕ → Type 0
After [] rest = Closes rest × (has_args rest ≡ false)
After (a ∷ more) rest = Closes rest

args_begin : (cs : List ℕ) → Begins begins_arg cs → has_args (32 ∷ cs) ≡ true
args_begin [] b = absurd b
args_begin (c ∷ cs) b = grind (arith, nat_tests, b)

args_again : (f : FormTree) (args : List ArgTree) (rest : List ℕ) → WellAll (WellArg f) args → IsCounted f (length args) → After args rest → args_at f (spell_args args ++ rest) ≡ Some (args, rest)
unfolding args_at
args_again f [] rest w n s = rw s.1 refl
args_again f (a ∷ more) rest w n s =
    let begins = Begins-append begins_arg (spell_list spell_arg (a ∷ more)) rest (Begins-append begins_arg (spell_arg a) (spell_more spell_arg more) ((is_form f).begins a w.0)) in
    rw (args_begin (spell_list spell_arg (a ∷ more) ++ rest) begins) ((is_form f).again (a ∷ more) rest w n s)

-- ---- postconditionals

well_condition : (k : KeywordTree) (c : Option ExprTree) → takes_condition k ≡ true → WellOptional max_depth c → WellCondition k c
well_condition k None t w = tt
well_condition k (Some e) t w = (t, w)

postcondition_takes : (k : KeywordTree) → Takes spell_condition (WellCondition k) (postcondition_at k)
unfolding postcondition_at
postcondition_takes k cs x e =
    elim (chosen (takes_condition k) (postcondition_by cs (past 58 cs)) (Some (None, cs)) (Some x) e) [
      | inl p ↦ let read = condition_read cs (past 58 cs) x refl p.1 in (read.0, well_condition k x.0 p.0 read.1)
      | inr p ↦ subst (λ (y : Option ExprTree × List ℕ). (cs ≡ spell_condition y.0 ++ y.1) × WellCondition k y.0) {x = (None, cs)} (some_is (None, cs) x p.1) (refl, tt)
    ]

same_either : {A : Type 0} (b : Bool) (x : A) → cond b x x ≡ x
same_either true x = refl
same_either false x = refl

postcondition_again : (k : KeywordTree) → Again spell_condition (WellCondition k) (λ rest. Ends rest × Stops is_colon rest) (postcondition_at k)
unfolding postcondition_at
postcondition_again k None rest w s = rw (not_past 58 rest s.1) (same_either (takes_condition k) (Some (None, rest)))
postcondition_again k (Some e) rest w s = rw (w.0, condition_spelled (Some e) rest w.1 s.0 s.1) refl

-- ---- commands

-- a word, a condition and arguments
three_parts : (w cs a t b rest : List ℕ) → cs ≡ a ++ t → t ≡ b ++ rest → w ++ cs ≡ (w ++ (a ++ b)) ++ rest
three_parts w cs a t b rest p q =
    let whole : w ++ cs ≡ w ++ (a ++ (b ++ rest)) = rw (p, q) refl in
    let same : (w ++ (a ++ b)) ++ rest ≡ w ++ (a ++ (b ++ rest)) = simp append_assoc in
    whole ∙ sym same

-- a command of which all is read, if it takes this many arguments
abbrev made : KeywordTree → List ℕ → Option ExprTree → List ArgTree × List ℕ → Option (CommandTree × List ℕ)
made k w c x = cond (takes_args k (length x.0)) (Some (record { keyword = k; word = w; condition = c; args = x.0 }, x.1)) None

command_takes_by : (w cs : List ℕ) (o : Option KeywordTree) (x : CommandTree × List ℕ) → AllAre is_letter w → keyword_of w ≡ o → command_by w o cs ≡ Some x
    → (w ++ cs ≡ spell_command x.0 ++ x.1) × WellCommand x.0
command_takes_by w cs None x l k e = absurd cc
command_takes_by w cs (Some keyword) x l k e =
    let c = bind_some (postcondition_at keyword cs) (λ c. args_at (form_of keyword) c.1 >>= made keyword w c.0) x e in
    let b = bind_some (args_at (form_of keyword) c.0.1) (made keyword w c.0.0) x c.2 in
    let behind = postcondition_takes keyword cs c.0 c.1 in
    let args = args_takes (form_of keyword) c.0.1 b.0 b.1 in
    let command : CommandTree × List ℕ = (record { keyword = keyword; word = w; condition = c.0.0; args = b.0.0 }, b.0.1) in
    elim (chosen (takes_args keyword (length b.0.0)) (Some command) None (Some x) b.2) [
      | inl p ↦
          subst (λ (y : CommandTree × List ℕ). (w ++ cs ≡ spell_command y.0 ++ y.1) × WellCommand y.0) {x = command} (some_is command x p.1)
          (three_parts w cs (spell_condition c.0.0) c.0.1 (spell_args b.0.0) b.0.1 behind.0 args.0, (k, l, p.0, behind.1, args.1))
      | inr p ↦ absurd cc
    ]

pub command_takes : Takes spell_command WellCommand command_at
unfolding command_at
command_takes cs x e =
    let r = run_parts is_letter cs in
    let t = command_takes_by (run_of is_letter cs) (after_run is_letter cs) (keyword_of (run_of is_letter cs)) x r.1 refl e in
    (r.0 ∙ t.0, t.1)

-- what follows a condition
args_follow : (args : List ArgTree) (rest : List ℕ) → After args rest → Ends (spell_args args ++ rest) × Stops is_colon (spell_args args ++ rest)
args_follow [] rest s = (s.0.0.0, s.0.0.1)
args_follow (a ∷ more) rest s = ((refl, refl), refl)

-- no letter follows a word
word_ends : (c : Option ExprTree) (rest : List ℕ) → Ends rest → Stops is_letter (spell_condition c ++ rest)
word_ends None rest s = Stops-weaker goes_on is_letter rest (λ c h. (not_on c h).1) (operand_ends rest s.0)
word_ends (Some e) rest s = refl

counted : (k : KeywordTree) (n : ℕ) → takes_args k n ≡ true → IsCounted (form_of k) n
counted for_word n h = λ f. grind (arith, nat_tests, h)
counted k n h = λ f. absurd cc

command_parts : (w c a rest : List ℕ) → (w ++ (c ++ a)) ++ rest ≡ w ++ (c ++ (a ++ rest))
command_parts w c a rest = simp append_assoc

pub command_again : (c : CommandTree) (rest : List ℕ) → WellCommand c → After c.args rest → command_at (spell_command c ++ rest) ≡ Some (c, rest)
unfolding command_at
command_again c rest h s =
    let args : List ℕ = spell_args c.args ++ rest in
    let there = args_follow c.args rest s in
    let r = run_again is_letter c.word (spell_condition c.condition ++ args) h.1 (word_ends c.condition args there.0) in
    let condition = postcondition_again c.keyword c.condition args h.3 there in
    let arguments = args_again (form_of c.keyword) c.args rest h.4 (counted c.keyword (length c.args) h.2) s in
    ap command_at (command_parts c.word (spell_condition c.condition) (spell_args c.args) rest) ∙ rw (r.0, r.1, h.0, condition, arguments, h.2) refl

no_keyword : keyword_of [] ≡ None
unfolding keyword_of
no_keyword = refl

-- a command begins with a letter
pub command_letter : (c : CommandTree) → WellCommand c → Begins is_letter (spell_command c)
command_letter c h = Begins-append is_letter c.word (spell_condition c.condition ++ spell_args c.args) (word_letter c.word c.keyword h.0 h.1)
  where
    word_letter : (w : List ℕ) (k : KeywordTree) → keyword_of w ≡ Some k → AllAre is_letter w → Begins is_letter w
    word_letter [] k h l = absurd (let e : None ≡ Some k = sym no_keyword ∙ h in cc)
    word_letter (c ∷ cs) k h l = l.0
