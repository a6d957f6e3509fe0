-- `blocks::add` meets its contract, number by number. Assumes nothing.
use mathlib.Core.Path.{refl}
use Rattle.tables.specs.Rows.{plus_multiple}
use Rattle.steps.proofs.AddProduct.{step_same}
use Rattle.blocks.proofs.add.Goals as goal

pub returns : goal.returns
unfolding plus_multiple
returns c =
    λ own h.
    record {
      first = step_same h.first refl c.get.ensures;
      second = step_same h.second refl c.get-2.ensures;
      third = step_same h.third refl c.get-3.ensures;
      fourth = step_same h.fourth refl c.get-4.ensures;
      fifth = step_same h.fifth refl c.get-5.ensures;
      sixth = step_same h.sixth refl c.get-6.ensures;
      seventh = step_same h.seventh refl c.get-7.ensures;
      eighth = step_same h.eighth refl c.get-8.ensures;
    }
