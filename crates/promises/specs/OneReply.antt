-- One reply alone meets the contract of each public function: it fixes the answer and each byte of memory, images and table afterwards, on a
-- refusal too (Contract 1, 2). The table by value and the lent one have the same contracts, so what is said here is said of both forms.
use Rattle.std.specs.Prelude.{◌≡◌, ℕ, ⊤, List, Result}
use Rattle.std.specs.Borrow.{Bor}
use Rattle.meaning.specs.declared.refusals.Refusal.{Refusal}
use Rattle.meaning.specs.declared.lends.LentDisks.{LentDisks}
use Rattle.meaning.specs.declared.lends.LentStore.{LentStore}
use Rattle.meaning.specs.declared.LentDrives.{LentDrives}
use Rattle.meaning.specs.Refusals.{told}
use Rattle.meaning.specs.Lends.{disks_of}
use Rattle.meaning.specs.declared.Drive.{Drive}
use Rattle.meaning.specs.Drives.{Drives}
use Rattle.meaning.specs.declared.Record.{Record}
use Rattle.meaning.specs.declared.Walked.{Walked}
use Rattle.meaning.specs.declared.Ran.{Ran}
use Rattle.meaning.specs.declared.Part.{Part}
use Rattle.meaning.specs.declared.Placed.{Placed}
use Rattle.meaning.specs.declared.Iopb.{Iopb}
use Rattle.meaning.specs.OneReply.{OneReply, OneTold}
use Rattle.meaning.specs.Store.{Store, images}
use Rattle.meaning.specs.State.{State, state_of}
use Rattle.meaning.specs.Look.{look_number, look_part, looked_part, IsAll, IsPart}
use Rattle.meaning.specs.Place.{placed}
use Rattle.meaning.specs.View.{made_number, view_of}
use Rattle.meaning.specs.Walk.{WalkGives}
use Rattle.meaning.specs.Pick.{PickGives}
use Rattle.meaning.specs.Run.{Tally, chain_steps, by_picks, as_written, RunGives}

-- what a call leaves of what it was lent: memory, the images of units 0 to 3, and the table
abbrev pub Left : Type 0
Left = List ℕ × List ℕ × List ℕ × List ℕ × List ℕ × List Record

abbrev pub left_state : Left → State
left_state x = state_of x.0 (images x.1 x.2 x.3 x.4) x.5

-- one answer, with one of each left
abbrev pub OneOutcome : {A : Type 0} → (A → State → Type 0) → Type 0
OneOutcome {A} P = OneReply (λ (x : A × Left). P x.0 (left_state x.1))

-- the bytes of the images that are lent to be read, and the drives; where the bytes lie is no part of a reply
abbrev pub lent_bytes : LentDisks → List ℕ × List ℕ × List ℕ × List ℕ × LentDrives
lent_bytes x = (x.image0.now, x.image1.now, x.image2.now, x.image3.now, x.drives)

pub record EachHasOneReply : Type 1 where
  -- a postcondition that is an equation with a definition, whatever the definition: so are those of all functions that are not named here
  -- or in the theorem of this name of their own crate
  pub plain : {A : Type 0} (f : A) → OneReply (λ (r : A). r ≡ f)
  pub walk : (d : Drives) (start : ℕ) (s : State) → OneReply (λ (x : Walked × List Record). WalkGives d start s x.0 x.1)
  pub pick : (d : Drives) (n p : ℕ) (x : Left) → OneOutcome (PickGives d n p (left_state x))
  pub run_by_picks_lem : (d : Drives) (n : ℕ) (ps : List ℕ) (x : Left) → OneOutcome (RunGives d n (by_picks d n ps) (left_state x))
  pub run_as_written_lem : (d : Drives) (n b : ℕ) (x : Left) → OneOutcome (RunGives d n (as_written d n b) (left_state x))
  -- the same of any state, and of any run
  pub pick_of_state : (d : Drives) (n p : ℕ) (s : State) → OneReply (λ (x : ℕ × State). PickGives d n p s x.0 x.1)
  pub run_of_state : (d : Drives) (n : ℕ) (go : State → Tally) (s : State) → OneReply (λ (x : Ran × State). RunGives d n go s x.0 x.1)
  pub chain_steps_lem : (t : List Record) (n : ℕ) → OneReply (λ (k : ℕ). k ≡ chain_steps t n)
  pub look : (d : Drives) (u n : ℕ) (s : Store) → OneReply (λ (l : List ℕ). l ≡ look_part d u n s)
  pub looked_part_lem : (d : Drives) (u n : ℕ) (s : Store) → OneReply (λ (x : Part). x ≡ looked_part d u n s)
  pub look_number_lem : (d : Drives) (u n : ℕ) (s : Store) → OneReply (λ (k : ℕ). k ≡ look_number d u n s)
  -- any two replies that are that part of one run are the same bytes at the same place
  pub look_in_place : (p : Part) (image r r' : Bor (List ℕ)) → IsPart p image r → IsPart p image r' → IsAll r' r
  pub place : (d : Drive) (n : ℕ) → OneReply (λ (x : Placed). x ≡ placed d n)
  pub view : (m : List ℕ) (a : ℕ) → OneReply (λ (v : Iopb). v ≡ view_of m a)
  pub view_number : (m : List ℕ) (a : ℕ) → OneReply (λ (k : ℕ). k ≡ made_number m a)
  -- an answer that names its refusal: what is told of it fixes the answer itself, whatever the number that the contract asks for
  pub refusal : (k : ℕ) → OneTold (λ r. r) (λ (r : Result ⊤ Refusal). told r ≡ k)
  pub look_refused : (d : Drives) (u n : ℕ) (s : Store) → OneTold (λ r. r) (λ (r : Result ⊤ Refusal). told r ≡ look_number d u n s)
  pub view_refused : (m : List ℕ) (a : ℕ) → OneTold (λ r. r) (λ (r : Result ⊤ Refusal). told r ≡ made_number m a)
  pub pick_refused : (d : Drives) (n p : ℕ) (s : State) → OneTold (λ x. x) (λ (x : Result ⊤ Refusal × State). PickGives d n p s (told x.0) x.1)
  -- a part that is lent on: its elements are those that the contract names
  pub lent_part : {A : Type 0} (f : List A) → OneTold (λ x. x.now) (λ (r : Bor (List A)). r.now ≡ f)
  pub disks_lent_on : (s : LentStore) → OneTold lent_bytes (λ (x : LentDisks). disks_of x s)
