-- What marks tell of the children, and what is asked of the child entries before they are marked.
pub mod Fit
pub mod Told
