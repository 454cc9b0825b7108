mod Asked
mod Cataloging
mod Defaults
mod Questions
mod Refused
mod Walks
