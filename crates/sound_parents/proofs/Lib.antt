-- Laws for marks that tell who is somebody's child: set, or counted up to 2; and what the first counted twice says of parents.
pub mod Entries
pub mod Marks
pub mod Counted
pub mod Nobody
pub mod Parents
