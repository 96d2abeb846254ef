-- Laws of the tables, by cases.
use Rattle.std.proofs.Common.{◌≡◌, refl, Bool, true, false}
use Rattle.conditions_model.specs.declared.tri.Tri.{Tri}
use Rattle.conditions_model.specs.declared.tri.Tri.TheVariants.{Yes, No, Unknown}
use Rattle.conditions_model.specs.TriTables.{tri, tri_and, tri_not, tri_or}
use Rattle.conditions_laws.specs.Known.{is_known}

pub not-not : (a : Tri) → tri_not (tri_not a) ≡ a
not-not Yes = refl
not-not No = refl
not-not Unknown = refl

pub not-and : (a b : Tri) → tri_not (tri_and a b) ≡ tri_or (tri_not a) (tri_not b)
not-and Yes Yes = refl
not-and Yes No = refl
not-and Yes Unknown = refl
not-and No Yes = refl
not-and No No = refl
not-and No Unknown = refl
not-and Unknown Yes = refl
not-and Unknown No = refl
not-and Unknown Unknown = refl

pub not-or : (a b : Tri) → tri_not (tri_or a b) ≡ tri_and (tri_not a) (tri_not b)
not-or Yes Yes = refl
not-or Yes No = refl
not-or Yes Unknown = refl
not-or No Yes = refl
not-or No No = refl
not-or No Unknown = refl
not-or Unknown Yes = refl
not-or Unknown No = refl
not-or Unknown Unknown = refl

pub and-order : (a b : Tri) → tri_and a b ≡ tri_and b a
and-order Yes Yes = refl
and-order Yes No = refl
and-order Yes Unknown = refl
and-order No Yes = refl
and-order No No = refl
and-order No Unknown = refl
and-order Unknown Yes = refl
and-order Unknown No = refl
and-order Unknown Unknown = refl

pub or-order : (a b : Tri) → tri_or a b ≡ tri_or b a
or-order Yes Yes = refl
or-order Yes No = refl
or-order Yes Unknown = refl
or-order No Yes = refl
or-order No No = refl
or-order No Unknown = refl
or-order Unknown Yes = refl
or-order Unknown No = refl
or-order Unknown Unknown = refl

pub and-groups : (a b c : Tri) → tri_and (tri_and a b) c ≡ tri_and a (tri_and b c)
and-groups Yes Yes Yes = refl
and-groups Yes Yes No = refl
and-groups Yes Yes Unknown = refl
and-groups Yes No Yes = refl
and-groups Yes No No = refl
and-groups Yes No Unknown = refl
and-groups Yes Unknown Yes = refl
and-groups Yes Unknown No = refl
and-groups Yes Unknown Unknown = refl
and-groups No Yes Yes = refl
and-groups No Yes No = refl
and-groups No Yes Unknown = refl
and-groups No No Yes = refl
and-groups No No No = refl
and-groups No No Unknown = refl
and-groups No Unknown Yes = refl
and-groups No Unknown No = refl
and-groups No Unknown Unknown = refl
and-groups Unknown Yes Yes = refl
and-groups Unknown Yes No = refl
and-groups Unknown Yes Unknown = refl
and-groups Unknown No Yes = refl
and-groups Unknown No No = refl
and-groups Unknown No Unknown = refl
and-groups Unknown Unknown Yes = refl
and-groups Unknown Unknown No = refl
and-groups Unknown Unknown Unknown = refl

pub or-groups : (a b c : Tri) → tri_or (tri_or a b) c ≡ tri_or a (tri_or b c)
or-groups Yes Yes Yes = refl
or-groups Yes Yes No = refl
or-groups Yes Yes Unknown = refl
or-groups Yes No Yes = refl
or-groups Yes No No = refl
or-groups Yes No Unknown = refl
or-groups Yes Unknown Yes = refl
or-groups Yes Unknown No = refl
or-groups Yes Unknown Unknown = refl
or-groups No Yes Yes = refl
or-groups No Yes No = refl
or-groups No Yes Unknown = refl
or-groups No No Yes = refl
or-groups No No No = refl
or-groups No No Unknown = refl
or-groups No Unknown Yes = refl
or-groups No Unknown No = refl
or-groups No Unknown Unknown = refl
or-groups Unknown Yes Yes = refl
or-groups Unknown Yes No = refl
or-groups Unknown Yes Unknown = refl
or-groups Unknown No Yes = refl
or-groups Unknown No No = refl
or-groups Unknown No Unknown = refl
or-groups Unknown Unknown Yes = refl
or-groups Unknown Unknown No = refl
or-groups Unknown Unknown Unknown = refl

pub known-and : (a b : Tri) → is_known a ≡ true → is_known b ≡ true → is_known (tri_and a b) ≡ true
known-and Yes Yes g h = refl
known-and Yes No g h = refl
known-and Yes Unknown g h = cc
known-and No Yes g h = refl
known-and No No g h = refl
known-and No Unknown g h = cc
known-and Unknown Yes g h = cc
known-and Unknown No g h = cc
known-and Unknown Unknown g h = cc

pub known-or : (a b : Tri) → is_known a ≡ true → is_known b ≡ true → is_known (tri_or a b) ≡ true
known-or Yes Yes g h = refl
known-or Yes No g h = refl
known-or Yes Unknown g h = cc
known-or No Yes g h = refl
known-or No No g h = refl
known-or No Unknown g h = cc
known-or Unknown Yes g h = cc
known-or Unknown No g h = cc
known-or Unknown Unknown g h = cc

pub known-not : (a : Tri) → is_known a ≡ true → is_known (tri_not a) ≡ true
known-not Yes g = refl
known-not No g = refl
known-not Unknown g = g

pub known-tri : (b : Bool) → is_known (tri b) ≡ true
known-tri true = refl
known-tri false = refl
