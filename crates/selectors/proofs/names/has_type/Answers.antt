use Rattle.std.proofs.Common.{◌∙◌, Some, ap, sym}
use Rattle.std.proofs.lemmas.Str.{encodes-chars}
use Rattle.std.specs.Str.{chars}
use Rattle.selectors_model.specs.Elements.{is_same_name}
use Rattle.selectors.proofs.Comparisons.{spelled-some}
use Rattle.page_model.specs.Document.{name_at}
use Rattle.selectors.proofs.names.has_type.Goals as goal

pub returns-in-Some : goal.returns-in-Some
returns-in-Some c =
    let named = spelled-some (name_at c.args.id c.args.doc.now.document.root) c.in-Some.tag.now c.in-Some.ensures in
    c.is_name.ensures (chars c.args.name.now) named.0 (sym (encodes-chars c.args.name.now c.utf8.name)) named.2
    ∙ ap (λ o. is_same_name o (Some (chars c.args.name.now))) (sym named.1)
