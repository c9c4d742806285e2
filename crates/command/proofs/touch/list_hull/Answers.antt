-- `command::touch::list_hull` meets its contract: the hull so far, with the ranges that are left, is the whole; and a range has no more
-- bytes than its length can say.
use Rattle.std.proofs.Common.{◌≡◌, ◌+◌, List, [], ◌∷◌, get_or, map, drop, sym, ap, ◌∙◌, arith, drop-cons, add-one}
use Rattle.std.proofs.lemmas.List.{drop_all}
use Rattle.meaning.specs.declared.Link.{Link}
use Rattle.meaning.specs.Ranges.{bytes}
use Rattle.meaning.specs.Links.{range_of, no_link}
use Rattle.command.specs.declared.touch.Bytes.{Bytes}
use Rattle.command.specs.declared.touch.Hull.{Hull}
use Rattle.command.specs.Footprints.{hull_with, hull_from, hull_of}
use Rattle.command.proofs.touch.list_hull.Goals as goal

pub loop-x-init : goal.loop-x-init
loop-x-init c = let start : c.of_nothing-h.result ≡ hull_of [] = c.of_nothing-h.ensures in
    record { whole = ap (λ (h : Hull). hull_from h (map range_of c.args.list.now)) (sym start); few = omega (arith, ap (λ (h : Hull). h.bytes) start) }

pub with-h-requires : goal.with-h-requires
with-h-requires c = (omega (arith, c.requires, c.loop-x.invariant.few), omega (arith, c.from.ensures.within))

pub loop-x-preserved : goal.loop-x-preserved
loop-x-preserved c = let l = c.loop-x in
    let xs = c.args.list.now in
    let here : drop l.x-index xs ≡ get_or xs l.x-index no_link ∷ drop (l.x-index + 1) xs = rw add-one (drop-cons xs l.x-index no_link c.loop-x-test.true) in
    let next = c.with-h.ensures ∙ ap (λ (b : Bytes). hull_with l.h (bytes b.from b.many)) c.from.ensures.value in
    record {
      whole =
          l.invariant.whole ∙ ap (λ (ys : List Link). hull_from l.h (map range_of ys)) here
          ∙ ap (λ (h : Hull). hull_from h (map range_of (drop (l.x-index + 1) xs))) (sym next);
      few = omega (arith, l.invariant.few, c.from.ensures.within, ap (λ (b : Bytes). b.many) c.from.ensures.value, ap (λ (h : Hull). h.bytes) next);
    }

pub returns : goal.returns
returns c = let l = c.loop-x in
    sym (l.invariant.whole ∙ ap (λ (ys : List Link). hull_from l.h (map range_of ys)) (drop_all l.x-index c.args.list.now c.loop-x-test.false))
