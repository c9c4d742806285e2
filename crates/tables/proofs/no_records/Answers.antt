-- `tables::no_records` meets its contract: a record by default is one of zeros, its list too.
use mathlib.Core.Path.{◌≡◌, sym, ap, ◌∙◌}
use Prim.Native.Nat.{ℕ, ◌<◌}
use native.Mathlib.Omega.{arith}
use mathlib.Core.List.{List}
use lib.ListN.{length, get_or, replicate}
use Rattle.std.proofs.lemmas.List.{ext_get_or, get_or-replicate}
use Rattle.std.specs.Array.{AllOfLen}
use Rattle.meaning.specs.declared.Link.{Link}
use Rattle.meaning.specs.Links.{no_link, no_links, most_links}
use Rattle.meaning.specs.Command.{blank_record}
use Rattle.meaning.specs.State.{most_commands}
use Rattle.tables.proofs.no_records.Goals as goal

zeros : (xs : List Link) → AllOfLen (λ x. (x.address ≡ 0) × ((x.length ≡ 0) × (x.unused ≡ 0))) xs most_links → xs ≡ no_links
zeros xs all = ext_get_or no_link xs no_links all.long each
  where
    each : (i : ℕ) → i < length xs → get_or xs i no_link ≡ get_or no_links i no_link
    each i h =
        let e = all.long in
        let within : i < most_links = omega arith in
        let zero = all.at i no_link within in
        let is_zero : get_or xs i no_link ≡ no_link = λ j. record { address = zero.0 j; length = zero.1.0 j; unused = zero.1.1 j } in
        is_zero ∙ sym (get_or-replicate most_links i no_link no_link within)

pub returns : goal.returns
returns c =
    let e = c.default.ensures in
    let list = zeros c.default.result.list e.1.1.1.1.1.1.1.1.1.1 in
    let blank : c.default.result ≡ blank_record = λ j. record {
      iopb = e.0 j;
      address = e.1.0 j;
      sector = e.1.1.0 j;
      taken = e.1.1.1.0 j;
      ranges = e.1.1.1.1.0 j;
      count = e.1.1.1.1.1.0 j;
      unit = e.1.1.1.1.1.1.0 j;
      byte0 = e.1.1.1.1.1.1.1.0 j;
      code = e.1.1.1.1.1.1.1.1.0 j;
      fitted = e.1.1.1.1.1.1.1.1.1.0 j;
      list = list j;
    } in
    ap (replicate most_commands) blank
