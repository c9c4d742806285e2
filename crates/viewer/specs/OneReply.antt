-- No second reply could meet the contract of a function of this crate (Contract 1). Of a viewer or a part of memory that is its bytes,
-- its address, and whether and why its making was refused; where the bytes lie is no part of a reply.
use Rattle.std.specs.Prelude.{◌≡◌, ℕ, ⊤, List, Result}
use Rattle.std.specs.Borrow.{Bor}
use Rattle.meaning.specs.declared.Iopb.{Iopb}
use Rattle.meaning.specs.declared.refusals.Refusal.{Refusal}
use Rattle.meaning.specs.Refusals.{told}
use Rattle.meaning.specs.OneReply.{OneReply, OneTold}
use Rattle.meaning.specs.View.{made_number, made, view_of}
use Rattle.viewer.specs.declared.Viewer.{Viewer}
use Rattle.viewer.specs.Seen.{seen}

pub record EachHasOneReply : Type 0 where
  pub make : (m : List ℕ) (a : ℕ) → OneTold seen (λ (r : Viewer). seen r ≡ made m a)
  pub making : (m : List ℕ) (a : ℕ) → OneTold (λ v. v.made) (λ (r : Viewer). seen r ≡ made m a)
  pub view_memory : (m : List ℕ) (a : ℕ) → OneTold (λ x. x.now) (λ (r : Bor (List ℕ)). r.now ≡ (made m a).memory)
  pub view_at : (m : List ℕ) (a : ℕ) → OneReply (λ (r : ℕ). r ≡ (made m a).at)
  pub view_number : (m : List ℕ) (a : ℕ) → OneReply (λ (r : ℕ). r ≡ made_number m a)
  -- a refusal is told by its number, which fixes it
  pub refusal : (m : List ℕ) (a : ℕ) → OneTold (λ r. r) (λ (r : Result ⊤ Refusal). told r ≡ made_number m a)
  pub number : (v : Viewer) → OneReply (λ (r : ℕ). r ≡ told v.made)
  -- every field f of a viewer v, and all of them at once
  pub field : (f : List ℕ → ℕ → ℕ) (v : Viewer) → OneReply (λ (r : ℕ). r ≡ f v.memory.now v.at)
  pub view : (m : List ℕ) (a : ℕ) → OneReply (λ (r : Iopb). r ≡ view_of m a)
