-- Each postcondition of this crate is an equation with a definition, which tells all of a reply; the number of a refusal fixes the refusal.
use mathlib.Core.Path.{sym, ap, ◌∙◌}
use Rattle.meaning.proofs.OneReply.{one_equation, told_equation}
use Rattle.meaning.proofs.Told.{told_once}
use Rattle.meaning.specs.View.{Seen}
use Rattle.viewer.specs.OneReply.{EachHasOneReply}

pub each_has_one_reply : EachHasOneReply
each_has_one_reply =
    record {
      make = λ m a. told_equation _ _;
      making = λ m a v w e e'. told_once v.made w.made (ap (λ (x : Seen). x.number) (e ∙ sym e'));
      view_memory = λ m a. told_equation _ _;
      view_at = λ m a. one_equation _;
      view_number = λ m a. one_equation _;
      refusal = λ m a r r' e e'. told_once r r' (e ∙ sym e');
      number = λ v. one_equation _;
      field = λ f v. one_equation _;
      view = λ m a. one_equation _;
    }
