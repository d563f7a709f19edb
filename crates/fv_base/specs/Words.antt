-- The forms that the program's words may have. This proxy's own rules.
use Rattle.std.specs.Prelude.{ℕ, List, [], ◌∷◌, Bool, false, not, ◌&&◌, ◌==◌, ◌||◌, leb, length, codes, Option, Some, None, if◌then◌else◌}
use Rattle.std.specs.List.{list_all}
use Rattle.std.specs.Str.{bytes_eq}
use Rattle.std.specs.Str.Parse.{digits_value}
use Rattle.fv_base.specs.declared.words.Form.{Form}
use Rattle.fv_base.specs.declared.words.Form.TheVariants.{Check, Replay, Gen, Serve, Virtual, Change, Flatten, Audit, Trace}

-- a form with the bytes of its texts
pub data FormBytes : Type 0 where
  OfCheck : (policy : List ℕ) → FormBytes
  OfReplay : (policy recording : List ℕ) → FormBytes
  OfGen : (seed count : ℕ) → FormBytes
  OfServe : (policy listen : List ℕ) (count : ℕ) → FormBytes
  OfVirtual : (policy recording : List ℕ) → FormBytes
  OfChange : (old new recording : List ℕ) → FormBytes
  OfFlatten : (outer name inner : List ℕ) → FormBytes
  OfAudit : (policy trace : List ℕ) → FormBytes
  OfTrace : (policy recording : List ℕ) → FormBytes

-- not empty, and no beginning with `-`
abbrev pub is_plain : List ℕ → Bool
is_plain [] = false
is_plain (first ∷ others) = not (first == 45)

abbrev pub is_digit : ℕ → Bool
is_digit byte = leb 48 byte && leb byte 57

abbrev pub starts_with_zero : List ℕ → Bool
starts_with_zero [] = false
starts_with_zero (first ∷ others) = first == 48

-- decimal digits without a leading zero, or `0`
abbrev pub is_number : List ℕ → Bool
is_number word = leb 1 (length word) && list_all is_digit word && (leb (length word) 1 || not (starts_with_zero word))

-- the number that a word is
abbrev pub number_of : List ℕ → Option ℕ
number_of word = if is_number word then Some (digits_value 10 word) else None

-- a number within these limits
abbrev pub within : ℕ → ℕ → Option ℕ → Option ℕ
within least most None = None
within least most (Some n) = if leb least n && leb n most then Some n else None

-- a seed: any number of 64 bits
abbrev pub seed_of : List ℕ → Option ℕ
seed_of word = within 0 18446744073709551615 (number_of word)

-- how many rounds may be made
abbrev pub rounds_of : List ℕ → Option ℕ
rounds_of word = within 0 1000000 (number_of word)

-- how many connections may be asked for
abbrev pub connections_of : List ℕ → Option ℕ
connections_of word = within 1 1000000000 (number_of word)

-- the form of two words: `check POLICY`
abbrev pub check_of : List ℕ → List ℕ → Option FormBytes
check_of command policy = if bytes_eq command (codes "check") && is_plain policy then Some (OfCheck policy) else None

-- a command and two texts: `replay POLICY RECORDING`, `virtual POLICY RECORDING`, `audit POLICY TRACE`, `trace POLICY RECORDING`
abbrev pub of_two : List ℕ → List ℕ → List ℕ → Option FormBytes
of_two command first second =
    if bytes_eq command (codes "replay") then Some (OfReplay first second)
    else if bytes_eq command (codes "virtual") then Some (OfVirtual first second)
    else if bytes_eq command (codes "audit") then Some (OfAudit first second)
    else if bytes_eq command (codes "trace") then Some (OfTrace first second)
    else None

-- a command and three texts: `change OLD NEW RECORDING`, `flatten OUTER NAME INNER`
abbrev pub of_three : List ℕ → List ℕ → List ℕ → List ℕ → Option FormBytes
of_three command first second third =
    if bytes_eq command (codes "change") then Some (OfChange first second third)
    else if bytes_eq command (codes "flatten") then Some (OfFlatten first second third)
    else None

-- two words that follow `gen`, which may be numbers: `gen SEED COUNT`
abbrev pub gen_of : Option ℕ → Option ℕ → Option FormBytes
gen_of None count = None
gen_of (Some seed) None = None
gen_of (Some seed) (Some count) = Some (OfGen seed count)

-- the form of three words
abbrev pub three_of : List ℕ → List ℕ → List ℕ → Option FormBytes
three_of command second third =
    if bytes_eq command (codes "gen") then gen_of (seed_of second) (rounds_of third)
    else if is_plain second && is_plain third then of_two command second third
    else None

-- three words that follow `serve`, of which the last may be a number: `serve POLICY LISTEN COUNT`
abbrev pub serve_of : List ℕ → List ℕ → Option ℕ → Option FormBytes
serve_of policy listen None = None
serve_of policy listen (Some count) = if is_plain policy && is_plain listen then Some (OfServe policy listen count) else None

-- the form of four words
abbrev pub four_of : List ℕ → List ℕ → List ℕ → List ℕ → Option FormBytes
four_of command second third fourth =
    if bytes_eq command (codes "serve") then serve_of second third (connections_of fourth)
    else if is_plain second && is_plain third && is_plain fourth then of_three command second third fourth
    else None

-- the form of the words
abbrev pub form_of : List (List ℕ) → Option FormBytes
form_of (command ∷ policy ∷ []) = check_of command policy
form_of (command ∷ second ∷ third ∷ []) = three_of command second third
form_of (command ∷ second ∷ third ∷ fourth ∷ []) = four_of command second third fourth
form_of _ = None

-- a form as its bytes
abbrev pub form_bytes : Form → FormBytes
form_bytes (Check policy) = OfCheck policy.now
form_bytes (Replay policy recording) = OfReplay policy.now recording.now
form_bytes (Gen seed count) = OfGen seed count
form_bytes (Serve policy listen count) = OfServe policy.now listen.now count
form_bytes (Virtual policy recording) = OfVirtual policy.now recording.now
form_bytes (Change old new recording) = OfChange old.now new.now recording.now
form_bytes (Flatten outer name inner) = OfFlatten outer.now name.now inner.now
form_bytes (Audit policy trace) = OfAudit policy.now trace.now
form_bytes (Trace policy recording) = OfTrace policy.now recording.now

-- whether the first word asks for `serve`
abbrev pub is_serve : List (List ℕ) → Bool
is_serve [] = false
is_serve (command ∷ others) = bytes_eq command (codes "serve")
