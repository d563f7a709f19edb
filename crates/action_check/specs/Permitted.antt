-- Which lists of actions a slice may send, and what becomes of them. All of this is the proxy's own rule.
use Rattle.std.specs.Prelude.{ℕ, ◌≡◌, ◌⊎◌, ◌==◌, if◌then◌else◌, leb, List, [], ◌∷◌, length, map, Option, Some, None, Result, Ok, Err}
use Rattle.std.specs.List.{flat_map}
use Rattle.std.specs.Option.{option_or}
use Rattle.of10_model.specs.Results.{Answers}
use Rattle.of10_action.specs.declared.action.Action.{Action}
use Rattle.of10_action.specs.declared.action.Action.TheVariants.{Output}
use Rattle.of10_action.specs.Actions.{spelling}
use Rattle.of10_port.specs.declared.protocol.TheConstants.{FLOOD, ALL}
use Rattle.flowspace.specs.declared.rules.Rule.{Rule}
use Rattle.action_check.specs.declared.fault.CheckFault.{CheckFault}
use Rattle.action_check.specs.declared.fault.CheckFault.TheVariants.{Refused, TooMany, Memory}
use Rattle.action_check.specs.declared.origin.Origin.{Origin}
use Rattle.action_check.specs.Origins.{image_after}
use Rattle.action_check.specs.ActionRules.{code_of}

-- the code of the first action that is forbidden, each tested on the image of the origin by the actions before it
abbrev pub first_code : List Rule → ℕ → Origin → List Action → Option ℕ
first_code rules slot image [] = None
first_code rules slot image (action ∷ others) = option_or (code_of rules slot image action) (first_code rules slot (image_after image action) others)

-- an output to each of some ports, of so many bytes
abbrev pub outputs : ℕ → List ℕ → List Action
outputs max_len ports = map (λ port. Output port max_len) ports

-- the ports for which FLOOD and ALL stand
abbrev pub ports_for : ℕ → List ℕ → List ℕ → Option (List ℕ)
ports_for port flood all = if port == FLOOD then Some flood else (if port == ALL then Some all else None)

-- an output to FLOOD or ALL is outputs to the ports for which it stands; each other action is itself
abbrev pub spread : List ℕ → List ℕ → Action → List Action
spread flood all (Output port max_len) = elim (ports_for port flood all) [ None ↦ Output port max_len ∷ [] | Some ports ↦ outputs max_len ports ]
spread flood all action = action ∷ []

-- the list with all such outputs in the place of FLOOD and ALL
abbrev pub expanded : List ℕ → List ℕ → List Action → List Action
expanded flood all actions = flat_map (spread flood all) actions

-- the code of the first action that is forbidden, or the list in which outputs stand for FLOOD and ALL
abbrev pub permitted : List Rule → ℕ → Origin → List Action → List ℕ → List ℕ → Result (List Action) ℕ
permitted rules slot origin actions flood all =
    elim (first_code rules slot origin actions) [ None ↦ Ok (expanded flood all actions) | Some code ↦ Err code ]

-- the answer for what is permitted: its code, or its list where that has at most 65,463 bytes
abbrev pub answer_of : Result (List Action) ℕ → Result (List Action) CheckFault
answer_of (Ok list) = if leb (length (spelling list)) 65463 then Ok list else Err TooMany
answer_of (Err code) = Err (Refused code)

-- a call gives the answer, or out of memory in the place of a list
abbrev pub GivesList : Result (List Action) CheckFault → Result (List Action) CheckFault → Type 0
GivesList called answer = Answers (λ fault told. (told ≡ Err fault) ⊎ ((fault ≡ Memory) × ((list : List Action) × (told ≡ Ok list)))) (λ list. list) called answer
