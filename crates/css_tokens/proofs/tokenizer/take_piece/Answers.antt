use Rattle.std.specs.Str.{chars}
use Rattle.css_tokens.proofs.FoundPieces.{Step, text-step}
use Rattle.css_tokens.proofs.LeftSteps.{left-shorter, left-within, left-tokens}
use Rattle.css_tokens.proofs.tokenizer.take_piece.Goals as goal

pub keep_piece-requires-clause-rest : goal.keep_piece-requires-clause-rest
keep_piece-requires-clause-rest c =
    let step : Step (chars c.args.left.text.now) c.args.left.start c.in-Ok.piece = text-step (chars c.args.left.text.now) c.args.c (chars c.args.rest.now) c.args.left.start c.in-Ok.piece c.requires.split c.in-Ok.ensures in
    step.rest

pub returns-in-Ok-clause-shorter : goal.returns-in-Ok-clause-shorter
returns-in-Ok-clause-shorter c =
    let step : Step (chars c.args.left.text.now) c.args.left.start c.in-Ok.piece = text-step (chars c.args.left.text.now) c.args.c (chars c.args.rest.now) c.args.left.start c.in-Ok.piece c.requires.split c.in-Ok.ensures in
    left-shorter c.keep_piece.result c.args.left c.in-Ok.piece step c.keep_piece.ensures.text

pub returns-in-Ok-clause-room : goal.returns-in-Ok-clause-room
returns-in-Ok-clause-room c =
    let step : Step (chars c.args.left.text.now) c.args.left.start c.in-Ok.piece = text-step (chars c.args.left.text.now) c.args.c (chars c.args.rest.now) c.args.left.start c.in-Ok.piece c.requires.split c.in-Ok.ensures in
    left-within c.keep_piece.result c.args.left c.in-Ok.piece step c.requires.room c.keep_piece.ensures.start c.keep_piece.ensures.text

pub returns-in-Ok-clause-taken : goal.returns-in-Ok-clause-taken
returns-in-Ok-clause-taken c =
    let step : Step (chars c.args.left.text.now) c.args.left.start c.in-Ok.piece = text-step (chars c.args.left.text.now) c.args.c (chars c.args.rest.now) c.args.left.start c.in-Ok.piece c.requires.split c.in-Ok.ensures in
    left-tokens c.keep_piece.result c.args.left c.in-Ok.piece c.args.tokens.now c.keep_piece.new.tokens step c.keep_piece.ensures.start c.keep_piece.ensures.text c.keep_piece.ensures.kept
