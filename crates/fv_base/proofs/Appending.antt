-- Pieces that are appended one after another.
use Rattle.std.proofs.Common.{◌≡◌, ℕ, ◌+◌, List, [], take, drop, refl, sym, ap, append_assoc, append-nil}
use Rattle.std.specs.Prelude.{Option, Some, None, Result, Ok, Err, OnErr}
use Rattle.std.proofs.Math.Seq.{take-add}
use Rattle.fv_base.specs.Told.{appended}

-- nothing was appended
pub appended_none : (told : Option (List ℕ)) → told ≡ appended told []
appended_none None = refl
appended_none (Some before) = ap Some (sym (append-nil before))

-- the first bytes were appended, and then the next ones
pub appended-more : (told : Option (List ℕ)) (bytes : List ℕ) (done n : ℕ) → appended (appended told (take done bytes)) (take n (drop done bytes)) ≡ appended told (take (done + n) bytes)
appended-more None bytes done n = refl
appended-more (Some before) bytes done n =
    rw (take-add done n bytes) (ap Some (append_assoc before (take done bytes) (take n (drop done bytes))))

-- what holds holds at an error
pub on_err : {A E P : Type 0} (result : Result A E) → P → OnErr result P
on_err (Ok value) holds = tt
on_err (Err fault) holds = holds
