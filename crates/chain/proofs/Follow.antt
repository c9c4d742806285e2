-- The walk's loop against `follow`: at its head the commands so far are the records of the IOPBs at the first n addresses, and what is left
-- to follow is what was to follow from the start. One law for each way out of a turn, and one for a turn that goes on.
use mathlib.Core.Path.{◌≡◌, refl, sym, ap, ◌∙◌, subst}
use Prim.Native.Nat.{ℕ, suc, ◌+◌, ◌-◌, ◌≤◌, ◌<◌}
use native.Mathlib.Numerals.{add-one}
use native.Mathlib.Omega.{arith}
use mathlib.Core.Bool.{Bool, true, false, not}
use mathlib.Core.List.{List, [], ◌∷◌, ◌++◌, map, map-append}
use lib.ListN.{length, take, drop, set, length-set, length-map, take-append-drop}
use lib.Seq.{take-suc-set, drop-set-lt, drop-drop, length-take-le}
use Rattle.std.proofs.lemmas.Bool.{cond-false, cond-true}
use Rattle.meaning.specs.declared.Copied.{Copied}
use Rattle.meaning.specs.Drives.{Drives}
use Rattle.meaning.specs.declared.Record.{Record}
use Rattle.meaning.specs.Each.{some_of}
use Rattle.meaning.specs.Fields.{all_in}
use Rattle.meaning.specs.Code.{copied_at}
use Rattle.meaning.specs.Walk.{refused, accepted, record_of, goes_on, shares, follow}
use Rattle.meaning.proofs.Tests.{some_map}
use Rattle.chain.specs.Found.{Finding, no_addresses, found_of}
use Rattle.chain.specs.Records.{record_at}

pub record Walking (m : List ℕ) (start : ℕ) (addresses : List ℕ) (n at : ℕ) : Type 0 where
  pub most : n ≤ 32
  pub long : length addresses ≡ 32
  pub followed : (d : Drives) → follow 32 m d [] start ≡ follow (32 - n) m d (map (record_at m d) (take n addresses)) at
  pub zeros_left : drop n addresses ≡ drop n no_addresses

abbrev pub ending : ℕ → List ℕ → Finding
ending n addresses = record { walked = record { number = 0; commands = n }; addresses = addresses }

-- a record made of an IOPB says where that is
pub places_of : (m : List ℕ) (d : Drives) (addresses : List ℕ) → map (λ (r : Record). r.iopb) (map (record_at m d) addresses) ≡ addresses
unfolding record_of
places_of m d [] = refl
places_of m d (a ∷ addresses) = ap (a ∷◌) (places_of m d addresses)

-- the places past the one that is noted now
rest_zeros : (addresses : List ℕ) (n at : ℕ) → drop n addresses ≡ drop n no_addresses → drop (n + 1) (set addresses n at) ≡ drop (n + 1) no_addresses
rest_zeros addresses n at e = drop-set-lt (n + 1) addresses n at (omega arith) ∙ sym (drop-drop 1 n addresses) ∙ ap (drop 1) e ∙ drop-drop 1 n no_addresses

module _ (m : List ℕ) (start : ℕ) (addresses : List ℕ) (n at : ℕ) (w : Walking m start addresses n at) (d : Drives) where
  abbrev commands : List Record
  commands = map (record_at m d) (take n addresses)

  -- one more command is allowed: what `follow` does with it
  one_more : n < 32 → follow 32 m d [] start ≡ follow (suc (32 - (n + 1))) m d commands at
  one_more h = w.followed d ∙ ap (λ (k : ℕ). follow k m d commands at) (omega arith)

  pub too_many : 32 ≤ n → follow 32 m d [] start ≡ refused 5
  unfolding follow
  too_many h =
      let none_left : 32 - n ≡ 0 = omega arith in
      w.followed d ∙ ap (λ (k : ℕ). follow k m d commands at) none_left

  pub not_in_memory : n < 32 → all_in m at ≡ false → follow 32 m d [] start ≡ refused 3
  unfolding follow
  not_in_memory h e = one_more h ∙ cond-true _ _ _ (ap not e)

  shared : (addresses-share : Bool) → some_of (λ (a : ℕ). shares a at) (take n addresses) ≡ addresses-share
      → some_of (λ (r : Record). shares r.iopb at) commands ≡ addresses-share
  shared b e = sym (some_map (λ (r : Record). r.iopb) (λ (a : ℕ). shares a at) commands) ∙ ap (some_of (λ (a : ℕ). shares a at)) (places_of m d (take n addresses)) ∙ e

  pub shares_a_byte : n < 32 → all_in m at ≡ true → some_of (λ (a : ℕ). shares a at) (take n addresses) ≡ true → follow 32 m d [] start ≡ refused 4
  unfolding follow
  shares_a_byte h i e = one_more h ∙ cond-false _ _ _ (ap not i) ∙ cond-true _ _ _ (shared true e)

  -- a turn has noted the address, and neither 3 nor 4 was given
  module _ (h : n < 32) (i : all_in m at ≡ true) (e : some_of (λ (a : ℕ). shares a at) (take n addresses) ≡ false) where
    abbrev noted : List ℕ
    noted = set addresses n at

    with_address : take (n + 1) noted ≡ take n addresses ++ at ∷ []
    with_address = rw add-one (take-suc-set addresses n at (omega (arith, w.long)))

    with_record : map (record_at m d) (take (n + 1) noted) ≡ commands ++ record_at m d at ∷ []
    with_record = ap (map (record_at m d)) with_address ∙ map-append (record_at m d) (take n addresses) (at ∷ [])

    chain_ends : goes_on (copied_at m at) ≡ false → follow 32 m d [] start ≡ accepted (map (record_at m d) (take (n + 1) noted))
    unfolding follow
    chain_ends g = one_more h ∙ cond-false _ _ _ (ap not i) ∙ cond-false _ _ _ (shared false e) ∙ cond-false _ _ _ g ∙ ap accepted (sym with_record)

    chain_goes_on : goes_on (copied_at m at) ≡ true → follow 32 m d [] start ≡ follow (32 - (n + 1)) m d (map (record_at m d) (take (n + 1) noted)) (copied_at m at).next
    unfolding follow
    chain_goes_on g =
        one_more h ∙ cond-false _ _ _ (ap not i) ∙ cond-false _ _ _ (shared false e) ∙ cond-true _ _ _ g
        ∙ ap (λ (rs : List Record). follow (32 - (n + 1)) m d rs (copied_at m at).next) (sym with_record)

    -- what is found where the chain ends with this IOPB
    found_ends : ending (n + 1) noted ≡ found_of (accepted (map (record_at m d) (take (n + 1) noted)))
    found_ends =
        let front = take (n + 1) noted in
        let long-front : length front ≡ n + 1 = length-take-le (n + 1) noted (omega (arith, length-set addresses n at, w.long)) in
        let whole : noted ≡ front ++ drop (n + 1) no_addresses = sym (take-append-drop (n + 1) noted) ∙ ap (front ++◌) (rest_zeros addresses n at w.zeros_left) in
        rw (length-map front (record_at m d), places_of m d front, long-front) (ap (ending (n + 1)) whole)

    pub last_turn : (c : Copied) → c ≡ copied_at m at → goes_on c ≡ false → ending (n + 1) noted ≡ found_of (follow 32 m d [] start)
    last_turn c is-copied g = found_ends ∙ ap found_of (sym (chain_ends (sym (ap goes_on is-copied) ∙ g)))

pub next_turn : (m : List ℕ) (start : ℕ) (addresses : List ℕ) (n at : ℕ) → Walking m start addresses n at → (c : Copied) → c ≡ copied_at m at → n < 32
    → all_in m at ≡ true → some_of (λ (a : ℕ). shares a at) (take n addresses) ≡ false → goes_on c ≡ true
    → Walking m start (set addresses n at) (n + 1) c.next
next_turn m start addresses n at w c is-copied h i e g =
    subst (λ (x : Copied). Walking m start (set addresses n at) (n + 1) x.next) (sym is-copied)
    (record {
      most = omega arith;
      long = length-set addresses n at ∙ w.long;
      followed = λ d. chain_goes_on m start addresses n at w d h i e (sym (ap goes_on is-copied) ∙ g);
      zeros_left = rest_zeros addresses n at w.zeros_left;
    })
