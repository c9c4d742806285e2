-- `chain::walk::plain_record_at` meets its contract: each field is what its call ensures, of what is copied.
use mathlib.Core.Path.{◌∙◌}
use Rattle.meaning.specs.Drives.{drives_of}
use Rattle.chain.specs.Coding.{verdict_by}
use Rattle.chain.proofs.Coding.{plain_made}
use Rattle.chain.proofs.walk.plain_record_at.Goals as goal

pub returns : goal.returns
returns c =
    let a = c.args in
    plain_made a.memory.now a.at (drives_of a.l) c.copied-c.result c.drive_of-d.result (verdict_by c.ask_early-early.result) c.first_sector-first.result c.no_links-list.result c.from-verdict.result
    c.copied-c.ensures c.drive_of-d.ensures c.ask_early-early.ensures c.no_links-list.ensures c.first_sector-first.ensures (c.from-verdict.ensures ∙ c.ask_all-asked.ensures)
