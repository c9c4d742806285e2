-- What a viewer made there keeps is what `made` says, and each field is asked of that.
use mathlib.Core.Path.{ap}
use Rattle.meaning.specs.View.{Seen, view_of}
use Rattle.viewer.proofs.view.Goals as goal

pub returns : goal.returns
unfolding view_of
returns c =
    let memory = ap (λ (s : Seen). s.memory) c.make-viewer.ensures in
    let at = ap (λ (s : Seen). s.at) c.make-viewer.ensures in
    let number = ap (λ (s : Seen). s.number) c.make-viewer.ensures in
    cc
