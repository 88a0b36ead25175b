-- The unpacked notes of a record.
use Rattle.places.specs.WideList.{WideList}
use Rattle.places.specs.RestList.{RestList}

pub record MoreList : Type 0 where
  pub wide : WideList
  pub rest : RestList
