use Rattle.std.proofs.Common.{◌∙◌, ap, sym}
use Rattle.std.specs.Str.{chars}
use Rattle.css_model.specs.Classes.{is_quote, begins}
use Rattle.css_tokens.proofs.UrlNames.{quote-behind_white}
use Rattle.css_tokens.proofs.names.quote_follows.Goals as goal

pub returns : goal.returns
returns c = c.begins.ensures ∙ (ap (begins is_quote) c.after_white.ensures ∙ sym (quote-behind_white (chars c.args.cs.now)))
