-- SPDX-License-Identifier: Apache-2.0
-- $QLENGTH, $QSUBSCRIPT and $NAME on examples, as proved equations. The values are GT.M's; what is refused is refused there too.
use Rattle.mmeaning.proofs.MeaningWords.{◌≡◌, [], ◌∷◌, codes, State, Text, Done, Gives, Fails, computes, reads_in, rules}
use Rattle.std.specs.Prelude.{Some, None, pos, negsuc}
use Rattle.mspec.specs.Code.{Code, M1, M90, Zarg}
use Rattle.mspec.specs.Plan.{Plan}
use Rattle.mspec.specs.Act.{Outcome}
use Rattle.mgrammar.specs.NameValues.{name_value_of, value_after, environment_at, name_subscripts_at, name_subscript_at}
use Rattle.mmeaning.specs.Functions.{call_value}
use Rattle.mmeaning.specs.Variables.{Evaluated, of_local, of_global, of_naked, named}

module _ (s : State) where
  abbrev gives : Text → Plan (Outcome Text)
  gives x = Done (Gives x s)

  abbrev refused : Code → Plan (Outcome Text)
  refused c = Done (Fails c s)

  abbrev count : Text → Plan (Outcome Text)
  count name = call_value (codes "ql") (name ∷ []) s

  abbrev part : Text → Text → Plan (Outcome Text)
  part name place = call_value (codes "QSUBSCRIPT") (name ∷ place ∷ []) s

  record NamesTaken : Type 0 where
    none : count (codes "^A") ≡ gives (codes "0")
    two : count (codes "A(1,\"b\")") ≡ gives (codes "2")
    no_name : count (codes "A(") ≡ refused M90
    no_text : count [] ≡ refused M90
    environment : part (codes "^|\"E\"|A(\"x\",2)") (codes "-1") ≡ gives (codes "E")
    no_environment : part (codes "^A(1)") (codes "-1") ≡ gives []
    name : part (codes "^|\"E\"|A(\"x\",2)") (codes "0") ≡ gives (codes "^A")
    first : part (codes "^|\"E\"|A(\"x\",2)") (codes "1") ≡ gives (codes "x")
    last : part (codes "^|\"E\"|A(\"x\",2)") (codes "2") ≡ gives (codes "2")
    past_the_last : part (codes "A(1)") (codes "2") ≡ gives []
    without_its_fraction : part (codes "A(1)") (codes "1.9") ≡ gives (codes "1")
    -- the number is looked at before the name
    below : part (codes "A(") (codes "-2") ≡ refused Zarg
    of_no_name : part (codes "A(") (codes "-1") ≡ refused M90

names_taken : (s : State) → NamesTaken s
unfolding computes reads_in name_value_of value_after environment_at name_subscripts_at name_subscript_at
names_taken s = search rules

-- $NAME of what a reference evaluates to, in a line of the account A whose last node is ^A(1,2)
module _ (s : State) where
  abbrev last_node : State
  last_node = record s { naked = Some (record { account = codes "A"; name = codes "A"; subscripts = codes "1" ∷ codes "2" ∷ [] }) }

  abbrev node : Text → Evaluated
  node account = of_global (record { account = account; name = codes "B"; subscripts = codes "1" ∷ codes "x" ∷ [] })

  record NamesGiven : Type 0 where
    local : named (codes "A") None (of_local (codes "X") []) s ≡ Done (Gives (codes "X") s)
    own : named (codes "A") None (node (codes "A")) s ≡ Done (Gives (codes "^B(1,\"x\")") s)
    other : named (codes "A") (Some (pos 1)) (node (codes "E")) s ≡ Done (Gives (codes "^|\"E\"|B(1)") s)
    none : named (codes "A") (Some (pos 0)) (node (codes "A")) s ≡ Done (Gives (codes "^B") s)
    all : named (codes "A") (Some (pos 9)) (node (codes "A")) s ≡ Done (Gives (codes "^B(1,\"x\")") s)
    below_none : named (codes "A") (Some (negsuc 0)) (node (codes "A")) s ≡ Done (Fails Zarg s)
    naked : named (codes "A") None (of_naked (codes "3" ∷ [])) last_node ≡ Done (Gives (codes "^A(1,3)") last_node)
    beside_none : named (codes "A") (Some (negsuc 0)) (of_naked (codes "3" ∷ [])) (record s { naked = None }) ≡ Done (Fails M1 (record s { naked = None }))

names_given : (s : State) → NamesGiven s
unfolding computes
names_given s = search rules
