-- Bytes that differ in their padding only.
use Rattle.std.specs.Prelude.{◌≡◌, ℕ, List, length, take, drop}

-- as many bytes and the same, but for those from one place up to another
pub record AlikeBut (from to : ℕ) (a b : List ℕ) : Type 0 where
  pub size : length a ≡ length b
  pub front : take from a ≡ take from b
  pub rest : drop to a ≡ drop to b
