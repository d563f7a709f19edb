-- Which texts are identifiers and addresses, in the words of what is printed. The forms are this proxy's own rule.
use Rattle.std.specs.Prelude.{◌≡◌, ◌⊎◌, ◌↔◌, ℕ, ◌^◌, ◌≤◌, ◌<◌, List, ◌∷◌, ◌++◌, Some, decimal}
use Rattle.of10_model.specs.declared.pattern.Prefix.{Prefix}
use Rattle.of10_model.specs.Pattern.{leading_bits}
use Rattle.address_text.specs.Addresses.{datapath_id, hardware_address, prefix}
use Rattle.address_text.specs.Texts.{dotted_text, hardware_text, hex_text}

-- a text of an address: with a slash and how many of its leading bits count, or without where all do
pub record IsPrefixText (text : List ℕ) (p : Prefix) : Type 0 where
  pub address : ℕ
  pub bits : ℕ
  pub below : address < 2 ^ 32
  pub some : 1 ≤ bits
  pub few : bits ≤ 32
  pub prefix_is : leading_bits address bits ≡ p
  pub written : (text ≡ dotted_text address ++ (47 ∷ decimal bits)) ⊎ ((bits ≡ 32) × (text ≡ dotted_text address))

-- the texts of addresses with leading bits are read, each as these, and no other
abbrev pub PrefixesAreAsWritten : Type 0
PrefixesAreAsWritten = (text : List ℕ) (p : Prefix) → (prefix text ≡ Some p) ↔ IsPrefixText text p

-- the texts of numbers of 48 bits as hardware addresses are read, each as its number, and no other
abbrev pub HardwareAddressesAreAsWritten : Type 0
HardwareAddressesAreAsWritten = (text : List ℕ) (n : ℕ) → (hardware_address text ≡ Some n) ↔ ((n < 2 ^ 48) × (text ≡ hardware_text n))

-- the texts of numbers of 64 bits in 16 hex digits are read, each as its number, and no other
abbrev pub DatapathIdsAreAsWritten : Type 0
DatapathIdsAreAsWritten = (text : List ℕ) (n : ℕ) → (datapath_id text ≡ Some n) ↔ ((n < 2 ^ 64) × (text ≡ hex_text 16 n))
