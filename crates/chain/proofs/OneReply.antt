-- What a walk tells of its result fixes the result: an accepted one tells its commands, and a refused one has a number of its own.
use mathlib.Core.Path.{◌≡◌, refl, sym, ap, ◌∙◌}
use Prim.Native.Nat.{ℕ}
use mathlib.Core.List.{List}
use Rattle.std.specs.Prelude.{Result, Ok, Err}
use Rattle.meaning.specs.declared.refusals.Refusal.{Refusal}
use Rattle.meaning.specs.declared.Walked.{Walked}
use Rattle.meaning.specs.Refusals.{number_of}
use Rattle.meaning.specs.Walk.{WalkGives}
use Rattle.meaning.proofs.Told.{number_not_0, by_number}
use Rattle.chain.specs.declared.walk.Found.{Found}
use Rattle.chain.specs.Found.{walked_of, Finding, finding_of}
use Rattle.chain.specs.OneReply.{EachHasOneReply}

walked_once : (a b : Result ℕ Refusal) → walked_of a ≡ walked_of b → a ≡ b
walked_once (Ok n) (Ok m) e = ap (λ (w : Walked). Ok w.commands) e
walked_once (Ok n) (Err s) e = absurd (number_not_0 s (sym (ap (λ (w : Walked). w.number) e)))
walked_once (Err r) (Ok m) e = absurd (number_not_0 r (ap (λ (w : Walked). w.number) e))
walked_once (Err r) (Err s) e = ap Err (by_number r s (ap (λ (w : Walked). w.number) e))

found_once : (a b : Result Found Refusal) → finding_of a ≡ finding_of b → a ≡ b
found_once (Ok f) (Ok g) e = ap (λ (x : Finding). Ok (record { addresses = x.addresses; commands = x.walked.commands })) e
found_once (Ok f) (Err s) e = absurd (number_not_0 s (sym (ap (λ (x : Finding). x.walked.number) e)))
found_once (Err r) (Ok g) e = absurd (number_not_0 r (ap (λ (x : Finding). x.walked.number) e))
found_once (Err r) (Err s) e = ap Err (by_number r s (ap (λ (x : Finding). x.walked.number) e))

pub each_has_one_reply : EachHasOneReply
unfolding WalkGives
each_has_one_reply =
    record {
      find = λ c r r' e e'. found_once r r' (e ∙ sym e');
      walk_into = λ d start s x y e e' j. (walked_once x.0 y.0 (e.0 ∙ sym e'.0) j, (e.1 ∙ sym e'.1) j);
    }
