use Rattle.std.proofs.Common.{◌∙◌, ap}
use Rattle.css_model.specs.Classes as model
use Rattle.css_tokens.specs.inner.Classes.{test_of}
use Rattle.css_tokens.proofs.Utf8Fronts.{bytes-begin}
use Rattle.css_tokens.proofs.runs.begins.Goals as goal

pub returns : goal.returns
returns c = c.begins_bytes.ensures ∙ (ap (model.begins (test_of c.args.class)) c.as_bytes.ensures.value ∙ bytes-begin c.args.class c.args.cs.now c.utf8.cs)
