-- `digits::put_text` meets its contract: two texts in a row. Assumes nothing.
use mathlib.Core.List.{[], ◌∷◌}
use mathlib.Core.Path.{◌∙◌}
use Rattle.buffer.proofs.Pasting.{written_next}
use Rattle.digits.proofs.put_text.Goals as goal

pub returns : goal.returns
returns g c =
    let text = c.as_bytes.ensures.value ∙ c.format.ensures.text in
    written_next (g.I.Integer.text c.args.value) (c.args.end ∷ []) c.requires (rw text at c.put_bytes.ensures) c.put_byte.ensures
